-- Two deltas at the front of a text, as a word of eight bytes holds them, the first byte lowest.
use Rattle.std.specs.Prelude.{ℕ, ◌+◌, ◌*◌, ◌/◌, ◌%◌, List, [], ◌∷◌, nat_lt, if◌then◌else◌}

-- the word of some bytes
abbrev pub word_of : List ℕ → ℕ
word_of [] = 0
word_of (b ∷ bs) = b + 256 * word_of bs

-- of each byte the top bit, where the byte has none: there a delta ends
abbrev pub ends_of : List ℕ → ℕ
ends_of [] = 0
ends_of (b ∷ bs) = (if nat_lt b 128 then 128 else 0) + 256 * ends_of bs

-- the number that the lower seven bits of four bytes write to base 128
abbrev pub value_of : ℕ → ℕ
value_of word = word % 128 + 128 * (word / 256 % 128) + 16384 * (word / 65536 % 128) + 2097152 * (word / 16777216 % 128)
