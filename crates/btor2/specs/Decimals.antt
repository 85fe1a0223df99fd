-- How the number of a decimal constant is held.
use Rattle.std.specs.Prelude.{ℕ, ℤ, ◌+◌, ◌*◌, ◌^◌}
use Rattle.std.specs.Int.{w128, cast_signed}

-- the number of 128 bits, in two's complement, of which these are the high and the low 64
abbrev pub number_joined : ℕ → ℕ → ℤ
number_joined high low = cast_signed w128 (high * 2 ^ 64 + low)
