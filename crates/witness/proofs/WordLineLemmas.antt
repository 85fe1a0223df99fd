-- A whole line of a witness over a model that is a byte with a number behind it.
use Rattle.std.proofs.Common.{◌≡◌, ℕ, ◌<◌, ◌-◌, ◌^◌, ◌==◌, true, false, ◌&&◌, List, [], ◌∷◌, Some, None, length, decimal, get_or, refl, sym, ap, ◌∙◌, arith, inl, inr}
use Rattle.std.specs.Str.{bytes_eq}
use Rattle.std.proofs.lemmas.Bool.{cases_Bool, and_parts, eqb-true, eqb-false, eq-eqb, false_from_ne_true}
use Rattle.base.specs.Decimals.{is_decimal, number_of}
use Rattle.base.proofs.DecimalLemmas.{number_is_decimal, number_of-decimal}
use Rattle.witness.specs.ClaimScans.{behind_first}
use Rattle.std.proofs.lemmas.Slice.Eq.{bytes_eq-Decides}

-- no number stands behind no byte
pub nothing_there : (line : List ℕ) → length line ≡ 0 → None ≡ number_of (behind_first line)
unfolding number_of is_decimal
nothing_there [] none = refl
nothing_there (a ∷ tail) none = absurd (omega (arith, none))

pub numbered_some : (line : List ℕ) (first byte n found : ℕ) → n < 2 ^ 64 - 1 → first ≡ get_or line 0 0 → first ≡ byte → Some found ≡ number_of (behind_first line) → (found == n) ≡ bytes_eq line (byte ∷ decimal n)
unfolding number_of is_decimal
numbered_some [] first byte n found small is same number = absurd (cc number)
numbered_some (a ∷ tail) first byte n found small is same number =
    let head : (a == byte) ≡ true = eq-eqb a byte (sym is ∙ same) in
    rw head
    (elim (cases_Bool (found == n)) [
      | inl e ↦
          let read : number_of tail ≡ Some n = sym number ∙ ap (λ (k : ℕ). Some k) (eqb-true found n e) in
          let spelled : tail ≡ decimal n = number_is_decimal tail n read small in
          e ∙ sym (ap (λ (l : List ℕ). bytes_eq l (decimal n)) spelled ∙ (bytes_eq-Decides (decimal n) (decimal n)).1 refl)
      | inr e ↦
          e
          ∙ sym (false_from_ne_true (bytes_eq tail (decimal n))
          (λ d.
          let spelled = (bytes_eq-Decides tail (decimal n)).0 d in
          let read : Some found ≡ Some n = number ∙ (ap number_of spelled ∙ number_of-decimal n (omega (arith, small))) in
          eqb-false found n e (cc (read))))
    ])

pub numbered_none : (line : List ℕ) (byte n : ℕ) → n < 2 ^ 64 - 1 → None ≡ number_of (behind_first line) → false ≡ bytes_eq line (byte ∷ decimal n)
numbered_none [] byte n small number = refl
numbered_none (a ∷ tail) byte n small number =
    sym (false_from_ne_true ((a == byte) && bytes_eq tail (decimal n))
    (λ d.
    let spelled = (bytes_eq-Decides tail (decimal n)).0 (and_parts (a == byte) (bytes_eq tail (decimal n)) d).1 in
    let read : None ≡ Some n = number ∙ (ap number_of spelled ∙ number_of-decimal n (omega (arith, small))) in
    cc (read)))
