-- Words as signed numbers, and the two roundings of a quotient (SMT-LIB, theory of fixed-size bit vectors: two's complement, `bvsdiv`, `bvsmod`).
use Rattle.std.specs.Prelude.{ℕ, suc, ◌-◌, ◌/◌, ◌%◌, ◌^◌, Bool, ◌||◌, nat_lt, ℤ, pos, negsuc, ◌-ℤ◌, neg_ℤ, int_lt, int_div, if◌then◌else◌}

-- the whole number that a word of width n stands for when its highest bit is a sign
abbrev pub signed : ℕ → ℕ → ℤ
signed n x = if nat_lt x (2 ^ (n - 1)) then pos x else pos x -ℤ pos (2 ^ n)

-- what is left of a whole number by a divisor, from 0 to the divisor less one; negsuc a is -(a + 1)
abbrev pub modulo : ℤ → ℕ → ℕ
modulo (pos a) m = a % m
modulo (negsuc a) m = m - 1 - a % m

-- the word of width n of a whole number
abbrev pub wrapped : ℕ → ℤ → ℕ
wrapped n z = modulo z (2 ^ n)

-- a quotient rounded towards zero
abbrev pub truncated : ℤ → ℤ → ℤ
truncated a b = int_div a b

-- a quotient by a divisor above zero, rounded down
abbrev pub floored_by : ℤ → ℕ → ℤ
floored_by (pos a) b = pos (a / b)
floored_by (negsuc a) b = negsuc (a / b)

-- a quotient rounded down
abbrev pub floored : ℤ → ℤ → ℤ
floored a (pos b) = floored_by a b
floored a (negsuc b) = floored_by (neg_ℤ a) (suc b)

-- no word of width n stands for a whole number when its highest bit is a sign
abbrev pub overflows : ℕ → ℤ → Bool
overflows n z = int_lt z (neg_ℤ (pos (2 ^ (n - 1)))) || int_lt (pos (2 ^ (n - 1) - 1)) z
