-- What is kept of a line of claims of a witness over a model, of which more may follow.
use Rattle.std.specs.Prelude.{◌≡◌, ℕ, Bool, true, false, ◌&&◌, nat_lt, List, [], ◌∷◌, ◌++◌, Option, Some, None, map, length}
use Rattle.std.specs.List.{list_any, list_all}
use Rattle.base.specs.Lines.{HasNone}
use Rattle.witness.specs.declared.word_claims.ClaimScan.{ClaimScan}
use Rattle.witness.specs.Texts.{are_distinct}
use Rattle.witness.specs.Admits.{Claim, claims_of, between_spaces}
use Rattle.witness.specs.ClaimScans.{Scans}
use Rattle.witness.specs.Fits.{AreClaimed}

-- claims with one more behind them, where all are claims
abbrev pub and_claim : Option (List Claim) → Option Claim → Option (List Claim)
and_claim None c = None
and_claim (Some list) None = None
and_claim (Some list) (Some c) = Some (list ++ c ∷ [])

-- the properties of their numbers are there, none twice
abbrev pub are_fit : ℕ → List Claim → Bool
are_fit bads list = list_all (λ c. nat_lt c.index bads) list && are_distinct (map (λ c. c.index) list)

-- what is kept of claims; flags are set at their numbers, where these are fit, and nowhere else
pub record AreKept (s : ClaimScan) (flags : List Bool) (list : List Claim) : Type 0 where
  pub claims : s.claims ≡ true
  pub justice : s.justice ≡ list_any (λ c. c.justice) list
  pub fit : s.fit ≡ are_fit (length flags) list
  pub claimed : s.fit ≡ true → AreClaimed flags (map (λ c. c.index) list)

-- the same of pieces, where all are claims
abbrev pub AreTold : ClaimScan → List Bool → Option (List Claim) → Type 0
AreTold s flags None = s.claims ≡ false
AreTold s flags (Some list) = AreKept s flags list

-- what is kept is that of this line: of the pieces that are whole, and of the last, whatever follows
pub record AreClaims (s : ClaimScan) (flags : List Bool) (line : List ℕ) : Type 0 where
  pub whole : List (List ℕ)
  pub last : List ℕ
  pub pieces : (rest : List ℕ) → between_spaces (line ++ rest) ≡ whole ++ between_spaces (last ++ rest)
  pub bare : HasNone 32 last
  pub told : AreTold s flags (claims_of whole)
  pub piece : Scans s.piece last
