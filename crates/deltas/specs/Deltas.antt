-- Numbers of seven bits a byte, lowest first, by which the binary form of a circuit names its gates' operands ("AIGER 1.9 and Beyond", binary format).
use Rattle.std.specs.Prelude.{ℕ, suc, zero, ◌+◌, ◌-◌, ◌*◌, ◌/◌, ◌%◌, List, [], ◌∷◌, Result, Ok, Err, ◌==◌, nat_lt, if◌then◌else◌}
use Rattle.deltas.specs.declared.reading.DeltaFault.{DeltaFault}
use Rattle.deltas.specs.declared.reading.DeltaFault.TheVariants as fault

-- the digits of a number to base 128, lowest first: all but the last have the top bit; there are so many more than one at most
abbrev pub digits_128 : ℕ → ℕ → List ℕ
digits_128 zero n = n ∷ []
digits_128 (suc more) n = if nat_lt n 128 then n ∷ [] else (n % 128 + 128) ∷ digits_128 more (n / 128)

-- the bytes of a delta, a number of at most five digits
abbrev pub delta : ℕ → List ℕ
delta n = digits_128 4 n

-- a byte with the top bit before the other digits of a number
abbrev pub before_others : ℕ → Result (ℕ × List ℕ) DeltaFault → Result (ℕ × List ℕ) DeltaFault
before_others b (Ok x) = Ok ((b - 128) + 128 * x.0, x.1)
before_others b (Err e) = Err e

-- the digits behind the first one, of which so many more may follow, and the text behind them: the last of them is not 0
abbrev pub more_digits : ℕ → List ℕ → Result (ℕ × List ℕ) DeltaFault
more_digits more [] = Err fault.Truncated
more_digits zero (b ∷ bs) = if nat_lt b 128 then (if b == 0 then Err fault.NotShortest else Ok (b, bs)) else Err fault.TooLong
more_digits (suc more) (b ∷ bs) = if nat_lt b 128 then (if b == 0 then Err fault.NotShortest else Ok (b, bs)) else before_others b (more_digits more bs)

-- the delta at the front of a text, and the text behind it
unfoldable pub number_at : List ℕ → Result (ℕ × List ℕ) DeltaFault
number_at [] = Err fault.Truncated
number_at (b ∷ bs) = if nat_lt b 128 then Ok (b, bs) else before_others b (more_digits 3 bs)
