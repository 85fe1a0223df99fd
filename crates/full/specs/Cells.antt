-- Arrays as words: cell i of n bits is the bits n * i to n * i + n - 1 (SMT-LIB, theory of arrays: what `select` and `store` give).
use Rattle.std.specs.Prelude.{ℕ, zero, suc, ◌+◌, ◌*◌, ◌/◌, ◌%◌, ◌^◌}
use Rattle.base.specs.Operator.{concat_value}

-- the word of a cell of n bits
abbrev pub read_value : ℕ → ℕ → ℕ → ℕ
read_value n a i = a / 2 ^ (n * i) % 2 ^ n

-- the array with another word in a cell: the cells above it, the word, and the cells below it
abbrev pub write_value : ℕ → ℕ → ℕ → ℕ → ℕ
write_value n a i v = concat_value (concat_value (a / 2 ^ (n * (i + 1))) n v) (n * i) (a % 2 ^ (n * i))

-- the array of so many cells of n bits that all have one word
abbrev pub repeat_value : ℕ → ℕ → ℕ → ℕ
repeat_value n zero v = 0
repeat_value n (suc count) v = concat_value (repeat_value n count v) n v
