-- What is kept of the bytes of a decimal of which more may follow.
use Rattle.std.specs.Prelude.{◌≡◌, ℕ, ◌+◌, ◌-◌, ◌^◌, min, Bool, true, not, ◌&&◌, ◌||◌, ◌==◌, nat_lt, List, length, slice_index_or, if◌then◌else◌}
use Rattle.base.specs.Decimals.{is_digit, are_digits, capped_value, number_more}
use Rattle.base.specs.declared.numeral.Numeral.{Numeral}

-- what is kept is that of these bytes
pub record CountsDigits (n : Numeral) (bytes : List ℕ) : Type 0 where
  pub count : n.count ≡ min (length bytes) (2 ^ 64 - 1)
  pub zero : n.zero ≡ (slice_index_or bytes 0 0 == 48)
  pub digits : n.digits ≡ are_digits bytes
  pub number : n.digits ≡ true → n.number ≡ capped_value bytes

-- what is kept with a byte more
abbrev pub numeral_more : Numeral → ℕ → Numeral
numeral_more n byte =
    record {
      count = min (n.count + 1) (2 ^ 64 - 1);
      zero = if n.count == 0 then byte == 48 else n.zero;
      digits = n.digits && is_digit byte;
      number = number_more n.number byte;
    }

-- the bytes are a decimal
abbrev pub is_numeral : Numeral → Bool
is_numeral n = nat_lt 0 n.count && (n.digits && (not n.zero || (n.count == 1)))
