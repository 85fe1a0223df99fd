-- What is kept of a claim byte by byte is what its bytes say.
use Rattle.std.proofs.Common.{◌≡◌, ℕ, Bool, List, [], ◌∷◌, ◌++◌, Option, Some, None, option_map, refl, sym, ap, ◌∙◌}
use Rattle.base.specs.declared.numeral.Numeral.{Numeral}
use Rattle.base.specs.Numerals.{CountsDigits}
use Rattle.witness.specs.declared.claim_scan.Scan.{Scan}
use Rattle.witness.specs.Admits.{Claim, claim_of}
use Rattle.witness.specs.ClaimScans.{Scans, pair_of}

-- a later one
pub later_byte : (s t : Scan) (line : List ℕ) (b a : ℕ) (n : Numeral) → Scans s line → s.first ≡ Some a → t ≡ record s { number = n }
    → ((bytes : List ℕ) → CountsDigits s.number bytes → CountsDigits n (bytes ++ b ∷ [])) → Scans t (line ++ b ∷ [])
later_byte s t [] b a n h some is more = absurd (cc (some, h.first))
later_byte s t (x ∷ tail) b a n h some is more = rw is (record { first = h.first; number = more tail h.number })

module _ (line : List ℕ) (o : Option (Bool × ℕ)) (is : o ≡ option_map pair_of (claim_of line)) where
  pub no_claim : o ≡ None → claim_of line ≡ None
  no_claim none = by (claim_of line) (sym is ∙ none)
    where
      by : (o : Option Claim) → option_map pair_of o ≡ None → o ≡ None
      by None e = refl
      by (Some c) e = absurd cc

  pub one_claim : (justice : Bool) (n : ℕ) → o ≡ Some (justice, n) → claim_of line ≡ Some (record { justice = justice; index = n })
  one_claim justice n some = by (claim_of line) (sym is ∙ some)
    where
      by : (o : Option Claim) → option_map pair_of o ≡ Some (justice, n) → o ≡ Some (record { justice = justice; index = n })
      by None e = absurd cc
      by (Some c) e =
          let same : pair_of c ≡ (justice, n) = cc in
          ap (λ (p : Bool × ℕ). Some (record { justice = p.0; index = p.1 })) same
