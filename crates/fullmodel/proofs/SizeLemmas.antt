-- How many bits arrays have.
use Rattle.std.proofs.Common.{◌≡◌, ℕ, ◌*◌, ◌^◌, ◌%◌, ◌<◌, ◌≤◌, sym, ◌∙◌, arith}
use Rattle.std.proofs.Math.Pow.{pow_mono}
use Rattle.std.proofs.Math.Nat.{mul_comm, mul-le-mul_left, mul-le-mul_right, mod-eq_of_lt}

-- more than 2 ^ 20 cells are too many
pub too_many : (k n : ℕ) → 20 < k → 1 ≤ n → 1048576 < 2 ^ k * n
too_many k n above some =
    let high : 2097152 ≤ 2 ^ k = pow_mono {i = 21} {j = k} (omega (arith, above)) in
    let more : 2 ^ k * 1 ≤ 2 ^ k * n = mul-le-mul_left {m = 1} {n = n} (2 ^ k) some in
    omega (arith, high, more)

-- a word times at most 2 ^ 20 has at most 84 bits
pub small_product : (k n : ℕ) → k ≤ 20 → n < 18446744073709551616 → n * 2 ^ k % 340282366920938463463374607431768211456 ≡ 2 ^ k * n
small_product k n few fits =
    let low : 2 ^ k ≤ 1048576 = pow_mono {i = k} {j = 20} few in
    let less : n * 2 ^ k ≤ n * 1048576 = mul-le-mul_left {m = 2 ^ k} {n = 1048576} n low in
    mod-eq_of_lt {n = n * 2 ^ k} {m = 340282366920938463463374607431768211456} (omega (arith, less, fits)) ∙ mul_comm n (2 ^ k)
