-- Steps are counted up to the greatest number of 128 bits, where the count stays.
use Rattle.std.specs.Prelude.{ℕ, zero, suc, ◌+◌, ◌-◌, ◌^◌, min}

-- a count after one more step
abbrev pub one_more : ℕ → ℕ
one_more count = min (count + 1) (2 ^ 128 - 1)

-- a count after so many steps more
abbrev pub more_steps : ℕ → ℕ → ℕ
more_steps zero count = count
more_steps (suc n) count = one_more (more_steps n count)
