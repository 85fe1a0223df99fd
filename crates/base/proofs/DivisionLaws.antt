-- Laws of quotients and remainders of words.
use Rattle.std.proofs.Common.{◌≡◌, ◌≢◌, ℕ, suc, ◌^◌, ◌<◌, ◌≤◌, ◌==◌, ℤ, pos, negsuc, neg_ℤ, nat_abs, ◌+ℤ◌, ◌-ℤ◌, ◌*ℤ◌, ◌<ℤ◌, ◌≤ℤ◌, int_rem, ap, ◌∙◌, arith}
use Rattle.std.proofs.lemmas.Bool.{ne_eqb, cond-false}
use Rattle.std.proofs.lemmas.Int.{ints, rem_below}
use Rattle.base.specs.Operator.{srem, smod}
use Rattle.base.specs.Signed.{signed, modulo, wrapped, truncated, floored_by, floored}
use Rattle.base.proofs.DivisionLemmas.{truncated_rest}
use Rattle.base.proofs.SignedLaws.{half, signed_is, modulo_below, overflows_in, wrapped_stands}

-- what is left where it is rounded down
floored_by_rest : (a : ℤ) (m : ℕ) → 0 < m → a -ℤ pos m *ℤ floored_by a m ≡ pos (modulo a m)
floored_by_rest (pos a) m h = omega (arith, ints)
floored_by_rest (negsuc a) m h = omega (arith, ints)

floored_rest_above : (a : ℤ) (m : ℕ) → 0 < m → a -ℤ pos m *ℤ floored a (pos m) ≡ pos (modulo a m)
floored_rest_above a m h = floored_by_rest a m h

floored_rest_under : (a : ℤ) (m : ℕ) → a -ℤ negsuc m *ℤ floored a (negsuc m) ≡ neg_ℤ (pos (modulo (neg_ℤ a) (suc m)))
floored_rest_under a m = omega (arith, ints, floored_by_rest (neg_ℤ a) (suc m) (omega arith))

-- it is below the divisor, and has its sign
floored_rest_below : (a d : ℤ) → 0 < nat_abs d → nat_abs (a -ℤ d *ℤ floored a d) < nat_abs d
floored_rest_below a (pos m) h = rw (floored_rest_above a m h) (modulo_below a m h)
floored_rest_below a (negsuc m) h = rw (floored_rest_under a m) (omega (arith, ints, modulo_below (neg_ℤ a) (suc m) h))

floored_rest_up : (a d : ℤ) → pos 0 <ℤ d → pos 0 ≤ℤ (a -ℤ d *ℤ floored a d)
floored_rest_up a (pos m) h = rw (floored_rest_above a m (omega (arith, ints))) (omega (arith, ints))
floored_rest_up a (negsuc m) h = absurd (omega (arith, ints))

floored_rest_down : (a d : ℤ) → d <ℤ pos 0 → (a -ℤ d *ℤ floored a d) ≤ℤ pos 0
floored_rest_down a (pos m) h = absurd (omega (arith, ints))
floored_rest_down a (negsuc m) h = rw (floored_rest_under a m) (omega (arith, ints))

-- the other has the dividend's sign
rem_up : (a d : ℤ) → pos 0 ≤ℤ a → pos 0 ≤ℤ int_rem a d
rem_up (pos a) d h = omega (arith, ints)
rem_up (negsuc a) d h = absurd (omega (arith, ints))

rem_down : (a d : ℤ) → a <ℤ pos 0 → int_rem a d ≤ℤ pos 0
rem_down (pos a) d h = absurd (omega (arith, ints))
rem_down (negsuc a) d h = omega (arith, ints)

-- a divisor that is not 0 stands for a number that is not 0
divisor_above : (n b : ℕ) → 1 ≤ n → b < 2 ^ n → b ≢ 0 → 0 < nat_abs (signed n b)
divisor_above n b h q z = omega (arith, ints, signed_is n b h q)

-- a number nearer to 0 than that of a word is the number of its own word
near_stands : (n b : ℕ) (z : ℤ) → 1 ≤ n → b < 2 ^ n → nat_abs z < nat_abs (signed n b) → signed n (wrapped n z) ≡ z
near_stands n b z h q k =
    let bounds = signed_is n b h q in
    wrapped_stands n z h (overflows_in n z (omega (arith, ints, half n h, bounds)) (omega (arith, ints, half n h, bounds)))

-- the signed remainders as numbers
srem_is : (n a b : ℕ) → 1 ≤ n → b < 2 ^ n → b ≢ 0 → signed n (srem n a b) ≡ int_rem (signed n a) (signed n b)
srem_is n a b h q z =
    let rest = truncated_rest (signed n a) (signed n b) in
    let below = rem_below (signed n a) (signed n b) (divisor_above n b h q z) in
    ap (signed n) (cond-false (b == 0) _ _ (ne_eqb b 0 z) ∙ ap (wrapped n) rest) ∙ near_stands n b _ h q below

smod_is : (n a b : ℕ) → 1 ≤ n → b < 2 ^ n → b ≢ 0 → signed n (smod n a b) ≡ signed n a -ℤ signed n b *ℤ floored (signed n a) (signed n b)
smod_is n a b h q z =
    let below = floored_rest_below (signed n a) (signed n b) (divisor_above n b h q z) in
    ap (signed n) (cond-false (b == 0) _ _ (ne_eqb b 0 z)) ∙ near_stands n b _ h q below

-- division of words as signed numbers
pub truncated_whole : (n a b : ℕ) → 1 ≤ n → b < 2 ^ n → b ≢ 0
    → signed n a ≡ signed n b *ℤ truncated (signed n a) (signed n b) +ℤ signed n (srem n a b)
truncated_whole n a b h q z = omega (arith, ints, srem_is n a b h q z, truncated_rest (signed n a) (signed n b))

pub truncated_below : (n a b : ℕ) → 1 ≤ n → b < 2 ^ n → b ≢ 0 → nat_abs (signed n (srem n a b)) < nat_abs (signed n b)
truncated_below n a b h q z =
    rw (srem_is n a b h q z) (rem_below (signed n a) (signed n b) (divisor_above n b h q z))

pub truncated_up : (n a b : ℕ) → 1 ≤ n → b < 2 ^ n → b ≢ 0 → pos 0 ≤ℤ signed n a → pos 0 ≤ℤ signed n (srem n a b)
truncated_up n a b h q z k = rw (srem_is n a b h q z) (rem_up (signed n a) (signed n b) k)

pub truncated_down : (n a b : ℕ) → 1 ≤ n → b < 2 ^ n → b ≢ 0 → signed n a <ℤ pos 0 → signed n (srem n a b) ≤ℤ pos 0
truncated_down n a b h q z k = rw (srem_is n a b h q z) (rem_down (signed n a) (signed n b) k)

pub floored_whole : (n a b : ℕ) → 1 ≤ n → b < 2 ^ n → b ≢ 0
    → signed n a ≡ signed n b *ℤ floored (signed n a) (signed n b) +ℤ signed n (smod n a b)
floored_whole n a b h q z = omega (arith, ints, smod_is n a b h q z)

pub floored_below : (n a b : ℕ) → 1 ≤ n → b < 2 ^ n → b ≢ 0 → nat_abs (signed n (smod n a b)) < nat_abs (signed n b)
floored_below n a b h q z =
    rw (smod_is n a b h q z) (floored_rest_below (signed n a) (signed n b) (divisor_above n b h q z))

pub floored_up : (n a b : ℕ) → 1 ≤ n → b < 2 ^ n → b ≢ 0 → pos 0 <ℤ signed n b → pos 0 ≤ℤ signed n (smod n a b)
floored_up n a b h q z k = rw (smod_is n a b h q z) (floored_rest_up (signed n a) (signed n b) k)

pub floored_down : (n a b : ℕ) → 1 ≤ n → b < 2 ^ n → b ≢ 0 → signed n b <ℤ pos 0 → signed n (smod n a b) ≤ℤ pos 0
floored_down n a b h q z k = rw (smod_is n a b h q z) (floored_rest_down (signed n a) (signed n b) k)
