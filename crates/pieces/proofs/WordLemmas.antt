-- Bits of words that are cut in two, the high side A, the low side x of w bits.
use Rattle.std.proofs.Common.{◌≡◌, ℕ, ◌+◌, ◌-◌, ◌*◌, ◌/◌, ◌%◌, ◌^◌, ◌<◌, ◌≤◌, sym, ap, ap₂, ◌∙◌, arith, div-one, mod-eq_of_lt}
use Rattle.std.proofs.lemmas.Nat.{mod_low, mod-pow-add, shr-shr, shr_high, field_of}
use Rattle.std.proofs.Math.Pow.{mod-mod-pow}
use Rattle.base.specs.Operator.{concat_value}

-- bits above the cut
pub field_high : (w A x l : ℕ) → x < 2 ^ w → concat_value A w x / 2 ^ (w + l) ≡ A / 2 ^ l
field_high w A x l h = sym (shr-shr (A * 2 ^ w + x) w l) ∙ ap (λ k. k / 2 ^ l) (shr_high A w x h)

-- bits below it
pub field_low : (w A x l m : ℕ) → x < 2 ^ w → l + m ≤ w → concat_value A w x / 2 ^ l % 2 ^ m ≡ x / 2 ^ l % 2 ^ m
field_low w A x l m h within =
    let whole : (w - (m + l)) + (m + l) ≡ w = omega (arith, within) in
    let cut : (n : ℕ) → n / 2 ^ l % 2 ^ m ≡ n % 2 ^ w % 2 ^ (m + l) / 2 ^ l =
    λ n. sym (field_of n m l) ∙ ap (λ k. k / 2 ^ l) (sym (mod-mod-pow n (w - (m + l)) (m + l)) ∙ ap (λ k. n % 2 ^ k % 2 ^ (m + l)) whole) in
    cut (A * 2 ^ w + x) ∙ ap (λ k. k % 2 ^ (m + l) / 2 ^ l) (mod_low A w x h ∙ sym (mod-eq_of_lt h)) ∙ sym (cut x)

-- bits across it
pub field_across : (w A x l m n : ℕ) → x < 2 ^ w → l ≤ w → m + (w - l) ≡ n → concat_value A w x / 2 ^ l % 2 ^ n ≡ concat_value (A % 2 ^ m) (w - l) (x / 2 ^ l % 2 ^ (w - l))
field_across w A x l m n h below is =
    let whole : l + (w - l) ≡ w = omega (arith, below) in
    let high : (A * 2 ^ w + x) / 2 ^ l / 2 ^ (w - l) ≡ A = shr-shr (A * 2 ^ w + x) l (w - l) ∙ ap (λ k. (A * 2 ^ w + x) / 2 ^ k) whole ∙ shr_high A w x h in
    let low = field_low w A x l (w - l) h (omega (arith, whole)) in
    ap (λ k. (A * 2 ^ w + x) / 2 ^ l % 2 ^ k) (sym is) ∙ mod-pow-add ((A * 2 ^ w + x) / 2 ^ l) m (w - l) ∙ ap₂ (λ (i j : ℕ). concat_value (i % 2 ^ m) (w - l) j) high low

-- all bits
pub field_all : (n x : ℕ) → x < 2 ^ n → x / 2 ^ 0 % 2 ^ n ≡ x
field_all n x h = ap (λ k. k % 2 ^ n) (div-one x) ∙ mod-eq_of_lt h

pub from_first : (m A : ℕ) → A / 2 ^ 0 % 2 ^ m ≡ A % 2 ^ m
from_first m A = ap (λ k. k % 2 ^ m) (div-one A)
