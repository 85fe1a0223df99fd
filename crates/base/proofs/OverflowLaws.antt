-- Each overflow test is 0 exactly where the word stands for the whole number.
use Rattle.std.proofs.Common.{◌≡◌, ◌≢◌, ◌↔◌, ℕ, zero, suc, ◌+◌, ◌-◌, ◌^◌, ◌<◌, ◌≤◌, ◌==◌, true, false, ℤ, pos, negsuc, ◌+ℤ◌, ◌-ℤ◌, ◌*ℤ◌, sym, ap, ◌∙◌, subst, ⊎_elim, refl, arith}
use Rattle.std.proofs.Math.Nat.{div-lt_self}
use Rattle.std.proofs.lemmas.Nat.{pow_pos}
use Rattle.std.proofs.lemmas.Int.{ints}
use Rattle.std.proofs.lemmas.Bool.{ne_eqb, eq-eqb, eqb-true, and_parts, and_from, and_right, both_ways, cases_Bool, true_from_ne_false}
use borrow.Author.Differences.{up, down}
use Rattle.base.specs.declared.operators.Binary.TheVariants as binary
use Rattle.base.specs.Word.{bit_number}
use Rattle.base.specs.Operator.{ones, binary_value, sdiv, sdiv_overflows}
use Rattle.base.specs.Signed.{signed, wrapped, truncated, overflows}
use Rattle.base.proofs.SignedLaws.{half, signed_is, same_signed, same_sum, same_difference, same_product, same_word, overflows_in, overflows_out, signed_fits, stands_exactly}

-- the word of a number, another word for it
exactly : (n w : ℕ) (z : ℤ) → 1 ≤ n → wrapped n z ≡ w → (bit_number (overflows n z) ≡ 0) ↔ (signed n w ≡ z)
exactly n w z h e = subst (λ (v : ℕ). (bit_number (overflows n z) ≡ 0) ↔ (signed n v ≡ z)) e (stands_exactly n z h)

pub saddo_exactly : (n a b : ℕ) → 1 ≤ n
    → (binary_value binary.Saddo n a b ≡ 0) ↔ (signed n (binary_value binary.Add n a b) ≡ signed n a +ℤ signed n b)
saddo_exactly n a b h =
    exactly n _ _ h (same_word n _ (pos a +ℤ pos b) (same_sum (2 ^ n) _ _ _ _ (same_signed n a) (same_signed n b)))

pub ssubo_exactly : (n a b : ℕ) → 1 ≤ n
    → (binary_value binary.Ssubo n a b ≡ 0) ↔ (signed n (binary_value binary.Sub n a b) ≡ signed n a -ℤ signed n b)
ssubo_exactly n a b h =
    exactly n _ _ h (same_word n _ (pos a -ℤ pos b) (same_difference (2 ^ n) _ _ _ _ (same_signed n a) (same_signed n b)))

pub smulo_exactly : (n a b : ℕ) → 1 ≤ n
    → (binary_value binary.Smulo n a b ≡ 0) ↔ (signed n (binary_value binary.Mul n a b) ≡ signed n a *ℤ signed n b)
smulo_exactly n a b h =
    exactly n _ _ h (same_word n _ (pos a *ℤ pos b) (same_product (2 ^ n) _ _ _ _ (same_signed n a) (same_signed n b)))

-- a quotient is in the range of the dividend, but where the least number is divided by -1
quotient_low : (a d : ℤ) (h : ℕ) → down a ≤ up a + h → up a < down a + h → down (truncated a d) ≤ up (truncated a d) + h
quotient_low (pos a) (pos d) h p q = omega arith
quotient_low (pos a) (negsuc d) h p q = omega (arith, ints)
quotient_low (negsuc a) (pos d) h p q = omega (arith, ints)
quotient_low (negsuc a) (negsuc d) h p q = omega arith

quotient_high : (a d : ℤ) (h : ℕ) → down a ≤ up a + h → up a < down a + h → (down a ≡ h → down d ≡ 1 → ⊥)
    → up (truncated a d) < down (truncated a d) + h
quotient_high (pos a) (pos d) h p q n = omega arith
quotient_high (pos a) (negsuc d) h p q n = omega (arith, ints)
quotient_high (negsuc a) (pos d) h p q n = omega (arith, ints)
quotient_high (negsuc a) (negsuc zero) h p q n = let less : suc a ≢ h = λ e. n e refl in omega arith
quotient_high (negsuc a) (negsuc (suc d)) h p q n = omega (arith, div-lt_self {n = suc a} {k = suc (suc d)} (omega arith) (omega arith))

-- the quotient that overflows
least_by_minus_one : (a d : ℤ) (h : ℕ) → down a ≡ h → down d ≡ 1 → up a < down a → truncated a d ≡ pos h
least_by_minus_one (pos a) d h p q r = absurd (omega arith)
least_by_minus_one (negsuc a) (pos d) h p q r = absurd (omega arith)
least_by_minus_one (negsuc a) (negsuc zero) h p q r = ap pos (omega arith)
least_by_minus_one (negsuc a) (negsuc (suc d)) h p q r = absurd (omega arith)

the_least : (n a : ℕ) → 1 ≤ n → a < 2 ^ n → (down (signed n a) ≡ 2 ^ (n - 1)) ↔ (a ≡ 2 ^ (n - 1))
the_least n a h p =
    (omega (arith, half n h, signed_is n a h p, pow_pos (n - 1)), omega (arith, half n h, signed_is n a h p, pow_pos (n - 1)))

minus_one : (n b : ℕ) → 1 ≤ n → b < 2 ^ n → (down (signed n b) ≡ 1) ↔ (b ≡ ones n)
minus_one n b h q = (omega (arith, signed_is n b h q), omega (arith, half n h, signed_is n b h q))

no_overflow : (n a b : ℕ) → 1 ≤ n → a < 2 ^ n → b < 2 ^ n → sdiv_overflows n a b ≡ false
    → overflows n (truncated (signed n a) (signed n b)) ≡ false
no_overflow n a b h p q e =
    let fits = overflows_out n (signed n a) (signed_fits n a h p) in
    let other = λ (x : down (signed n a) ≡ 2 ^ (n - 1)) (y : down (signed n b) ≡ 1).
    both_ways _ e (and_from _ _ (eq-eqb _ _ ((the_least n a h p).0 x)) (eq-eqb _ _ ((minus_one n b h q).0 y))) in
    overflows_in n _ (quotient_low _ _ _ fits.0 fits.1) (quotient_high _ _ _ fits.0 fits.1 other)

overflow : (n a b : ℕ) → 1 ≤ n → a < 2 ^ n → b < 2 ^ n → sdiv_overflows n a b ≡ true
    → overflows n (truncated (signed n a) (signed n b)) ≡ true
overflow n a b h p q e =
    let parts = and_parts _ _ e in
    let least = (the_least n a h p).1 (eqb-true _ _ parts.0) in
    let under : up (signed n a) < down (signed n a) = omega (arith, signed_is n a h p, pow_pos (n - 1)) in
    let quotient = least_by_minus_one _ _ _ least ((minus_one n b h q).1 (eqb-true _ _ parts.1)) under in
    true_from_ne_false _ (λ o. omega (arith, ints, quotient, overflows_out n _ o))

sdivo_tells : (n a b : ℕ) → 1 ≤ n → a < 2 ^ n → b < 2 ^ n
    → sdiv_overflows n a b ≡ overflows n (truncated (signed n a) (signed n b))
sdivo_tells n a b h p q = ⊎_elim
    (λ e. e ∙ sym (overflow n a b h p q e))
    (λ e. e ∙ sym (no_overflow n a b h p q e))
    (cases_Bool (sdiv_overflows n a b))

pub sdivo_exactly : (n a b : ℕ) → 1 ≤ n → a < 2 ^ n → b < 2 ^ n → b ≢ 0
    → (binary_value binary.Sdivo n a b ≡ 0) ↔ (signed n (binary_value binary.Sdiv n a b) ≡ truncated (signed n a) (signed n b))
sdivo_exactly n a b h p q z =
    rw (sdivo_tells n a b h p q, ne_eqb b 0 z) (stands_exactly n (truncated (signed n a) (signed n b)) h)

pub sdivo_by_zero : (n a : ℕ) → 1 ≤ n → binary_value binary.Sdivo n a 0 ≡ 0
sdivo_by_zero n a h = ap bit_number (and_right (a == 2 ^ (n - 1)) _ (ne_eqb 0 (ones n) (λ e. omega (arith, half n h, pow_pos (n - 1)))))

pub sdiv_stands : (n a b : ℕ) → 1 ≤ n → a < 2 ^ n → b < 2 ^ n → b ≢ 0 → sdiv_overflows n a b ≡ false
    → signed n (sdiv n a b) ≡ truncated (signed n a) (signed n b)
sdiv_stands n a b h p q z e = (sdivo_exactly n a b h p q z).0 (ap bit_number e)
