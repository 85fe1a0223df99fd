-- What is kept of the bytes of a claim of which more may follow.
use Rattle.std.specs.Prelude.{◌≡◌, ℕ, Bool, true, false, ◌==◌, List, [], ◌∷◌, slice_get, Option, Some, None, if◌then◌else◌}
use Rattle.base.specs.Numerals.{CountsDigits}
use Rattle.witness.specs.declared.claim_scan.Scan.{Scan}
use Rattle.witness.specs.Admits.{Claim}

-- the bytes behind the first
abbrev pub behind_first : List ℕ → List ℕ
behind_first [] = []
behind_first (b ∷ bs) = bs

-- what is kept is that of these bytes
pub record Scans (s : Scan) (line : List ℕ) : Type 0 where
  pub first : s.first ≡ slice_get line 0
  pub number : CountsDigits s.number (behind_first line)

-- what a first byte with a number behind it claims: whether a justice property, and the number
abbrev pub claimed : ℕ → ℕ → Option (Bool × ℕ)
claimed first number = if first == 98 then Some (false, number) else (if first == 106 then Some (true, number) else None)

abbrev pub pair_of : Claim → Bool × ℕ
pair_of c = (c.justice, c.index)
