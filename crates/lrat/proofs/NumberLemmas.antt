-- What a number says is what its bytes write.
use Rattle.std.proofs.Common.{◌≡◌, ℕ, ◌-◌, ◌^◌, ◌<◌, min, ◌==◌, nat_lt, false, List, [], ◌∷◌, ◌++◌, refl, ap, ◌∙◌, arith}
use Rattle.std.proofs.lemmas.Bool.{le-ltb}
use Rattle.drup.specs.declared.why.Why.TheVariants as why
use Rattle.drup.specs.BinaryProofs.{coded_number, last_byte}
use Rattle.drup.proofs.NumberLemmas.{last_of}
use Rattle.lrat.specs.HintedProofs.{Token, faulty}
use Rattle.lrat.specs.BinaryHintedProofs.{number_in}

pub says_needless : (said : ℕ → Token) (bytes : List ℕ) (b : ℕ) → b ≡ 0 → faulty why.BadWord ≡ number_in said (bytes ++ b ∷ [])
says_needless said bytes b is =
    let last : last_byte 0 (bytes ++ b ∷ []) ≡ 0 = last_of 0 bytes b ∙ is in
    rw last refl

pub says_number : (said : ℕ → Token) (bytes : List ℕ) (b n : ℕ) → b < 128 → (b == 0) ≡ false → n ≡ min (coded_number (bytes ++ b ∷ [])) (2 ^ 64 - 1) → said n ≡ number_in said (bytes ++ b ∷ [])
says_number said bytes b n low some is =
    let whole : nat_lt 127 b ≡ false = le-ltb 127 b (omega (arith, low)) in
    ap said is ∙ over whole
  where
    over : nat_lt 127 b ≡ false → said (min (coded_number (bytes ++ b ∷ [])) (2 ^ 64 - 1)) ≡ number_in said (bytes ++ b ∷ [])
    over whole = rw (last_of 0 bytes b, whole, some) refl
