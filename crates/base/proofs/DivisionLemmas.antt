-- Quotients and remainders of signed numbers.
use Rattle.std.proofs.Common.{◌≡◌, ◌≢◌, ℕ, zero, suc, ◌/◌, ◌%◌, ◌<◌, ◌≤◌, Bool, true, false, not, ◌⊎◌, inl, inr, sym, ap, ◌∙◌, arith, ℤ, pos, negsuc, ◌+ℤ◌, ◌-ℤ◌, ◌*ℤ◌, neg_ℤ, int_div, int_rem, int_lt, unsigned_abs, refl}
use Rattle.std.proofs.Math.Nat.{mul-zero, div-le_self, zero-div, zero-mod, mod_self, mod-eq_of_lt, suc-mod}
use Rattle.std.proofs.Math.IntN.{*ℤ_comm}
use Rattle.std.specs.Bool.{beq}
use Rattle.std.proofs.lemmas.Bool.{cases_lt}
use Rattle.std.proofs.lemmas.Bool.Decides.{nat_tests}
use Rattle.std.proofs.lemmas.Int.{ints, quot-rem}
use Rattle.base.specs.Signed.{floored}

-- the opposite of a natural number has its size
abs-neg : (n : ℕ) → unsigned_abs (neg_ℤ (pos n)) ≡ n
abs-neg zero = refl
abs-neg (suc n) = refl

-- a quotient rounded towards zero is no greater than the dividend, signs aside
pub quotient_small : (a b : ℤ) → unsigned_abs (int_div a b) ≤ unsigned_abs a
quotient_small (pos a) (pos b) = div-le_self a b
quotient_small (pos a) (negsuc b) = omega (arith, abs-neg (a / suc b), div-le_self a (suc b))
quotient_small (negsuc a) (pos b) = omega (arith, abs-neg (suc a / b), div-le_self (suc a) b)
quotient_small (negsuc a) (negsuc b) = div-le_self (suc a) (suc b)

-- what a quotient rounded towards zero leaves
pub truncated_rest : (a b : ℤ) → a -ℤ b *ℤ int_div a b ≡ int_rem a b
truncated_rest a b = omega (arith, ints, quot-rem a b, *ℤ_comm b (int_div a b))

-- the remainder of one more
next_rest : (a d : ℕ) → 0 < d → (suc a % d ≡ suc (a % d)) ⊎ ((suc (a % d) ≡ d) × (suc a % d ≡ 0))
next_rest a d h = elim (cases_lt (suc (a % d)) d) [
  | inl more ↦ inl (suc-mod a d ∙ mod-eq_of_lt more)
  | inr full ↦
      let e : suc (a % d) ≡ d = omega arith in
      inr (e, suc-mod a d ∙ ap (λ k. k % d) e ∙ mod_self d)
]

-- two signs differ
abbrev pub differ : ℤ → ℤ → Bool
differ a b = not (beq (int_lt a (pos 0)) (int_lt b (pos 0)))

-- a natural divisor that is not 0 is above 0
not_zero : (b : ℕ) → pos b ≢ pos 0 → 0 < b
not_zero zero h = absurd (h refl)
not_zero (suc b) h = omega arith

-- a remainder of the divisor's sign, or 0, is that of the quotient rounded down
pub floored_same : (a b : ℤ) → b ≢ pos 0 → (int_rem a b ≡ pos 0) ⊎ (differ (int_rem a b) b ≡ false) → int_rem a b ≡ a -ℤ b *ℤ floored a b
floored_same (pos a) (pos b) h same = sym (truncated_rest (pos a) (pos b))
floored_same (negsuc a) (negsuc b) h same = sym (truncated_rest (negsuc a) (negsuc b))
floored_same (pos zero) (negsuc b) h same = simp (zero-mod, zero-div, mul-zero)
floored_same (pos (suc a)) (negsuc b) h same = elim (next_rest a (suc b) (omega arith)) [
  | inl e ↦ absurd (grind (arith, ints, nat_tests))
  | inr e ↦ omega (arith, ints)
]
floored_same (negsuc a) (pos b) h same = elim (next_rest a b (not_zero b h)) [
  | inl e ↦ absurd (grind (arith, ints, nat_tests))
  | inr e ↦ let below : 0 < b = not_zero b h in omega (arith, ints)
]

-- one of the other sign is a divisor away
pub floored_other_sign : (a b : ℤ) → b ≢ pos 0 → int_rem a b ≢ pos 0 → differ (int_rem a b) b ≡ true → int_rem a b +ℤ b ≡ a -ℤ b *ℤ floored a b
floored_other_sign (pos a) (pos b) h some other = absurd (grind (arith, ints, nat_tests))
floored_other_sign (negsuc a) (negsuc b) h some other = absurd (grind (arith, ints, nat_tests))
floored_other_sign (pos zero) (negsuc b) h some other = absurd (some (ap pos (zero-mod (suc b))))
floored_other_sign (pos (suc a)) (negsuc b) h some other = elim (next_rest a (suc b) (omega arith)) [
  | inl e ↦ omega (arith, ints)
  | inr e ↦ absurd (some (ap pos e.1))
]
floored_other_sign (negsuc a) (pos b) h some other = elim (next_rest a b (not_zero b h)) [
  | inl e ↦ let below : 0 < b = not_zero b h in omega (arith, ints)
  | inr e ↦ absurd (some (ap (λ k. neg_ℤ (pos k)) e.1))
]
