-- The digits of a delta, read one by one.
use Rattle.std.proofs.Common.{ℕ, zero, suc, ◌+◌, ◌^◌, ◌≤◌, arith}

pub power_low : (m : ℕ) → m ≤ 3 → 128 ≤ 128 ^ (m + 1)
power_low zero h = omega arith
power_low (suc zero) h = omega arith
power_low (suc (suc zero)) h = omega arith
power_low (suc (suc (suc zero))) h = omega arith
power_low (suc (suc (suc (suc n)))) h = absurd (omega arith)

pub power_high : (m : ℕ) → m ≤ 4 → 128 ^ m ≤ 268435456
power_high zero h = omega arith
power_high (suc zero) h = omega arith
power_high (suc (suc zero)) h = omega arith
power_high (suc (suc (suc zero))) h = omega arith
power_high (suc (suc (suc (suc zero)))) h = omega arith
power_high (suc (suc (suc (suc (suc n))))) h = absurd (omega arith)
