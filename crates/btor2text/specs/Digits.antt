-- Digits of constants: of a radix, of either case, and decimals with a sign.
use Rattle.std.specs.Prelude.{◌≡◌, ℕ, suc, zero, ◌+◌, ◌^◌, ◌/◌, ◌%◌, min, Bool, true, List, [], ◌∷◌, ◌++◌, length, ℤ, pos, neg_ℤ, Option, Some, None, ◌==◌, nat_le, if◌then◌else◌}
use Rattle.std.specs.List.{list_all}
use Rattle.std.specs.Char.{is_digit, digit_char}
use Rattle.std.specs.Str.Parse.{digits_value}
use Rattle.base.specs.Decimals.{is_decimal}

-- each byte is a digit of a radix up to 16: from 0 to 9, or a letter from a, of either case
abbrev pub are_digits_of : ℕ → List ℕ → Bool
are_digits_of radix bytes = list_all (λ b. is_digit b radix) bytes

-- bytes are digits of a radix: so many, and this number is what they write, the highest first
pub record IsNumber (radix count value : ℕ) (bytes : List ℕ) : Type 0 where
  pub each : are_digits_of radix bytes ≡ true
  pub many : length bytes ≡ count
  pub says : digits_value radix bytes ≡ value

-- the last digits of a number, so many of them, letters in lower case
abbrev pub last_digits : ℕ → ℕ → ℕ → List ℕ
last_digits radix zero value = []
last_digits radix (suc count) value = last_digits radix count (value / radix) ++ digit_char (value % radix) ∷ []

-- the number that bytes write as digits of a radix, where each is one; a number above 2 ^ 64 counts as 2 ^ 64
unfoldable pub number_in : ℕ → List ℕ → Option ℕ
number_in radix bytes = if are_digits_of radix bytes then Some (min (digits_value radix bytes) (2 ^ 64)) else None

-- the number that bytes write as a decimal
unfoldable pub decimal_number : List ℕ → Option ℕ
decimal_number bytes = if is_decimal bytes then number_in 10 bytes else None

-- the negated number, where there is one other than 0
abbrev pub negated : Option ℕ → Option ℤ
negated None = None
negated (Some n) = if n == 0 then None else Some (neg_ℤ (pos n))

-- the number itself, where there is one
abbrev pub unsigned : Option ℕ → Option ℤ
unsigned None = None
unsigned (Some n) = Some (pos n)

-- the number that bytes write as a decimal, or as `-` and a decimal other than 0; one beyond 2 ^ 64 on either side counts as 2 ^ 64 on that side
unfoldable pub signed_number : List ℕ → Option ℤ
signed_number [] = None
signed_number (b ∷ bs) = if b == 45 then negated (decimal_number bs) else unsigned (decimal_number (b ∷ bs))

-- what is kept of a constant's digits, of which a word takes so many at most: how many they are, and their number.
-- More than a word takes count as one more than that with the number 0; a push refuses these.
abbrev pub kept_count : ℕ → ℕ → ℕ
kept_count most count = if nat_le count most then count else most + 1

abbrev pub kept_value : ℕ → ℕ → ℕ → ℕ
kept_value most count value = if nat_le count most then value else 0
