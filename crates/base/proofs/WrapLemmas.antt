-- Numbers of 64 bits cut to a width.
use Rattle.std.proofs.Common.{◌≡◌, ℕ, ◌+◌, ◌-◌, ◌*◌, ◌%◌, ◌^◌, ◌<◌, ◌≤◌, sym, ap, ◌∙◌, arith, ℤ, pos, negsuc, ◌+ℤ◌, ◌-ℤ◌, to_z, of_z, w64, unsigned_abs, refl}
use Rattle.std.proofs.Math.Pow.{mod-mod-pow}
use Rattle.std.proofs.lemmas.Bool.Decides.{nat_tests}
use Rattle.std.proofs.lemmas.Int.{ints, int_rem_euclid_is, of_z-to_z}
use Rattle.std.proofs.lemmas.Nat.{pow_pos, pow-add}
use Rattle.base.specs.Signed.{wrapped}

-- 64 bits are whole turns of a narrower width
turns : (n : ℕ) → n ≤ 64 → 2 ^ (64 - n) * 2 ^ n ≡ 2 ^ 64
turns n h = let whole : 64 - n + n ≡ 64 = omega arith in sym (pow-add 2 (64 - n) n) ∙ ap (λ k. 2 ^ k) whole

-- a number cut to 64 bits, and then to a narrower width
pub cut_twice : (n x : ℕ) → n ≤ 64 → x % 2 ^ 64 % 2 ^ n ≡ x % 2 ^ n
cut_twice n x h =
    let whole : 64 ≡ 64 - n + n = omega arith in
    ap (λ k. x % 2 ^ k % 2 ^ n) whole ∙ mod-mod-pow x (64 - n) n

-- the word of a whole number that is a natural number but for whole turns
pub wrapped_is : (n : ℕ) (z : ℤ) (k m : ℕ) → z +ℤ pos (k * 2 ^ n) ≡ pos m → wrapped n z ≡ m % 2 ^ n
wrapped_is n (pos a) k m e = ap unsigned_abs (int_rem_euclid_is (pos a) (pos (2 ^ n)) (2 ^ n) k m (pow_pos n) refl e)
wrapped_is n (negsuc a) k m e = ap unsigned_abs (int_rem_euclid_is (negsuc a) (pos (2 ^ n)) (2 ^ n) k m (pow_pos n) refl e)

-- the same where 64 bits hold the number
wrapped_at_64 : (n : ℕ) (z : ℤ) (m : ℕ) → n ≤ 64 → z +ℤ pos (2 ^ 64) ≡ pos m → wrapped n z ≡ m % 2 ^ n
wrapped_at_64 n z m h e = wrapped_is n z (2 ^ (64 - n)) m (ap (λ k. z +ℤ pos k) (turns n h) ∙ e)

-- the word of a difference
pub wrapped_difference : (n a b : ℕ) → n ≤ 64 → b ≤ 2 ^ 64 → (a + (2 ^ 64 - b)) % 2 ^ 64 % 2 ^ n ≡ wrapped n (pos a -ℤ pos b)
wrapped_difference n a b h below =
    cut_twice n (a + (2 ^ 64 - b)) h ∙ sym (wrapped_at_64 n (pos a -ℤ pos b) (a + (2 ^ 64 - b)) h (omega (arith, ints)))

-- the bits of a number from -2 ^ 63 to 2 ^ 63 are a number of 64 bits
bits_of : (z : ℤ) → unsigned_abs z ≤ 2 ^ 63 → of_z w64 z < 2 ^ 64
bits_of (pos a) small = omega arith
bits_of (negsuc a) small = omega arith

-- a signed number of 64 bits is from -2 ^ 63 to 2 ^ 63
signed_range : (x : ℕ) → x < 2 ^ 64 → unsigned_abs (to_z w64 x) ≤ 2 ^ 63
signed_range x below = grind (arith, nat_tests)

-- the word of a number that is cast to 64 bits
pub wrapped_cast : (n : ℕ) (z : ℤ) → n ≤ 64 → unsigned_abs z ≤ 2 ^ 63 → of_z w64 z % 2 ^ n ≡ wrapped n z
wrapped_cast n (pos a) h small = refl
wrapped_cast n (negsuc a) h small = sym (wrapped_at_64 n (negsuc a) (of_z w64 (negsuc a)) h (omega (arith, ints)))

-- a number that is cast to 64 bits and back keeps its word
pub wrapped_cast_back : (n : ℕ) (z : ℤ) → n ≤ 64 → unsigned_abs z ≤ 2 ^ 63 → wrapped n (to_z w64 (of_z w64 z)) ≡ wrapped n z
wrapped_cast_back n z h small =
    let bits : of_z w64 z < 2 ^ 64 = bits_of z small in
    sym (wrapped_cast n (to_z w64 (of_z w64 z)) h (signed_range (of_z w64 z) bits))
    ∙ ap (λ x. x % 2 ^ n) (of_z-to_z w64 (of_z w64 z) bits)
    ∙ wrapped_cast n z h small
