-- Shifts and rotations of words.
use Rattle.std.proofs.Common.{◌≡◌, ℕ, ◌+◌, ◌-◌, ◌*◌, ◌/◌, ◌%◌, ◌^◌, ◌<◌, ◌≤◌, min, bit_or, sym, ap, ◌∙◌, inl, inr, arith, ℤ, pos, negsuc, FitsSigned, w64}
use Rattle.std.specs.Int.{int_shr}
use Rattle.std.proofs.lemmas.Int.{ints}
use Rattle.std.proofs.Math.Nat.{div-eq_of_lt, mul-mod_left, mul_assoc}
use Rattle.std.proofs.lemmas.Bool.{cases_lt}
use Rattle.std.proofs.lemmas.Nat.{pow_pos, pow-add, shl-shr, mod-pow-add, or_shifted, shr_below}
use Rattle.base.specs.Signed.{floored_by}

-- a number below a power of two is below the later ones
below_more : (n b a : ℕ) → n ≤ b → a < 2 ^ n → a < 2 ^ b
below_more n b a h below =
    let split : 2 ^ b ≡ 2 ^ (b - n) * 2 ^ n = (let e : b ≡ b - n + n = omega arith in ap (λ k. 2 ^ k) e ∙ pow-add 2 (b - n) n) in
    grind (arith, pow_pos (b - n), split)

-- nothing of a word is left by a shift of its width and more
pub shifted_out_left : (n a b : ℕ) → n ≤ b → a * 2 ^ b % 2 ^ n ≡ 0
shifted_out_left n a b h =
    let e : b ≡ b - n + n = omega arith in
    let split : a * 2 ^ b ≡ a * 2 ^ (b - n) * 2 ^ n =
    ap (λ k. a * 2 ^ k) e ∙ ap (λ p. a * p) (pow-add 2 (b - n) n) ∙ sym (mul_assoc a (2 ^ (b - n)) (2 ^ n))
    in
    ap (λ x. x % 2 ^ n) split ∙ mul-mod_left (a * 2 ^ (b - n)) (2 ^ n)

pub shifted_out_right : (n a b : ℕ) → n ≤ b → a < 2 ^ n → a / 2 ^ b ≡ 0
shifted_out_right n a b h below = div-eq_of_lt (below_more n b a h below)

-- the two parts of a rotated word have no place in common
pub rotated_parts : (n i j a : ℕ) → i + j ≡ n → a < 2 ^ n → bit_or (a * 2 ^ i % 2 ^ n) (a / 2 ^ j) ≡ a * 2 ^ i % 2 ^ n + a / 2 ^ j
rotated_parts n i j a e below =
    let commuted : j + i ≡ n = omega arith in
    let high : a * 2 ^ i % 2 ^ n ≡ a % 2 ^ j * 2 ^ i =
    ap (λ k. a * 2 ^ i % 2 ^ k) (sym commuted) ∙ mod-pow-add (a * 2 ^ i) j i
    ∙ (let low = mul-mod_left a (2 ^ i) in let back = shl-shr a i in rw (low, back) (omega arith))
    in
    let low : a / 2 ^ j < 2 ^ i = shr_below a i j (rw e below) in
    ap (λ x. bit_or x (a / 2 ^ j)) high ∙ or_shifted (a % 2 ^ j) i (a / 2 ^ j) low ∙ ap (λ x. x + a / 2 ^ j) (sym high)

-- below 2 ^ 63 a quotient by 2 ^ 63 is 0, as each later one is
quotient_at_63 : (a b : ℕ) → a < 2 ^ 63 → a / 2 ^ min b 63 ≡ a / 2 ^ b
quotient_at_63 a b below = elim (cases_lt b 63) [
  | inl small ↦ let e : min b 63 ≡ b = omega arith in ap (λ k. a / 2 ^ k) e
  | inr large ↦
      let e : min b 63 ≡ 63 = omega arith in
      ap (λ k. a / 2 ^ k) e ∙ shifted_out_right 63 a 63 (omega arith) below ∙ sym (shifted_out_right 63 a b large below)
]

-- a shift to the right by 63 leaves the sign alone, as each longer one does
pub shifted_to_sign : (x : ℤ) (b : ℕ) → FitsSigned w64 x → int_shr x (min b 63) ≡ floored_by x (2 ^ b)
shifted_to_sign (pos a) b fits = ap pos (quotient_at_63 a b (omega (arith, ints)))
shifted_to_sign (negsuc a) b fits = ap negsuc (quotient_at_63 a b (omega (arith, ints)))
