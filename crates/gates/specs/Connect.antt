-- Two bits connected by and, or or exclusive or, and the same of words bit by bit ("Btor2, BtorMC and Boolector 3.0", table of operators).
use Rattle.std.specs.Prelude.{ℕ, ◌*◌, Bool, not, ◌&&◌, ◌||◌, ◌==◌, ◌%◌, bit_and, bit_or, bit_xor, count_ones, if◌then◌else◌}
use Rattle.base.specs.Operator.{ones}
use Rattle.base.specs.declared.operators.Unary.{Unary}
use Rattle.base.specs.declared.operators.Unary.TheVariants.{Redand, Redor, Redxor}
use Rattle.gates.specs.declared.bitwise.Connective.{Connective}
use Rattle.gates.specs.declared.bitwise.Connective.TheVariants.{And, Or, Xor}

-- whether two bits differ
abbrev pub differ : Bool → Bool → Bool
differ x y = if x then not y else y

-- what connects two bits
abbrev pub connected : Connective → Bool → Bool → Bool
connected And x y = x && y
connected Or x y = x || y
connected Xor x y = differ x y

-- what connects two words, bit by bit
abbrev pub connected_words : Connective → ℕ → ℕ → ℕ
connected_words And a b = bit_and a b
connected_words Or a b = bit_or a b
connected_words Xor a b = bit_xor a b

-- what connects all bits of a word of width n
abbrev pub connected_bits : Connective → ℕ → ℕ → Bool
connected_bits And n a = a == ones n
connected_bits Or n a = not (a == 0)
connected_bits Xor n a = count_ones a % 2 == 1

-- the most gates of two bits connected
abbrev pub connective_bound : Connective → ℕ
connective_bound And = 1
connective_bound Or = 1
connective_bound Xor = 3

-- the most gates of two words of width n connected, or of all bits of one
abbrev pub words_bound : Connective → ℕ → ℕ
words_bound And n = n
words_bound Or n = n
words_bound Xor n = 3 * n

-- the reduction that connects all bits of a word
abbrev pub reduction_by : Connective → Unary
reduction_by And = Redand
reduction_by Or = Redor
reduction_by Xor = Redxor
