-- Decimals: which bytes write a number, and which number they write.
use Rattle.std.specs.Prelude.{ℕ, ◌+◌, ◌-◌, ◌*◌, ◌^◌, min, Bool, true, false, ◌&&◌, ◌||◌, not, List, [], ◌∷◌, Option, Some, None, ◌==◌, nat_le, if◌then◌else◌}
use Rattle.std.specs.List.{list_all}
use Rattle.std.specs.Str.Parse.{digits_value}

-- a byte is a digit from 0 to 9
abbrev pub is_digit : ℕ → Bool
is_digit b = nat_le 48 b && nat_le b 57

-- each byte is a digit
abbrev pub are_digits : List ℕ → Bool
are_digits bytes = list_all is_digit bytes

-- there is no byte
abbrev pub is_nothing : List ℕ → Bool
is_nothing [] = true
is_nothing (b ∷ bs) = false

-- a decimal: `0`, or a digit from 1 to 9 followed by digits
unfoldable pub is_decimal : List ℕ → Bool
is_decimal [] = false
is_decimal (b ∷ bs) = if b == 48 then is_nothing bs else (nat_le 49 b && nat_le b 57 && are_digits (b ∷ bs))

-- there is a first byte, and none behind it where that is `0`
unfoldable pub begins_decimal : List ℕ → Bool
begins_decimal [] = false
begins_decimal (b ∷ bs) = not (b == 48) || is_nothing bs

-- the number that digits write; one above 2 ^ 64 - 1 is read as 2 ^ 64 - 1
unfoldable pub capped_value : List ℕ → ℕ
capped_value digits = min (digits_value 10 digits) (2 ^ 64 - 1)

-- the number that bytes write, where each is a digit
unfoldable pub digits_number : List ℕ → Option ℕ
digits_number bytes = if are_digits bytes then Some (capped_value bytes) else None

-- the number that bytes write, where they are a decimal
unfoldable pub number_of : List ℕ → Option ℕ
number_of bytes = if is_decimal bytes then Some (capped_value bytes) else None

-- a number with a digit more, which stays at 2 ^ 64 - 1; with any other byte it is as it was
abbrev pub number_more : ℕ → ℕ → ℕ
number_more number byte = if is_digit byte then min (min (number * 10) (2 ^ 64 - 1) + (byte - 48)) (2 ^ 64 - 1) else number
