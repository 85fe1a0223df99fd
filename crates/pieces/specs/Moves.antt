-- Words that move by an amount below their width: two parts, one before the other.
use Rattle.std.specs.Prelude.{ℕ, Bool, true, false, ◌-◌, ◌/◌, ◌%◌, ◌^◌}
use Rattle.base.specs.declared.operators.Binary.TheVariants as binary
use Rattle.base.specs.Operator.{ones, binary_value, ite_value}
use Rattle.pieces.specs.declared.moves.Move.{Move}
use Rattle.pieces.specs.declared.moves.Move.TheVariants as move

-- the word that it gives for a word of width n and an amount
abbrev pub moved_value : Move → ℕ → ℕ → ℕ → ℕ
moved_value move.Left n a k = binary_value binary.Sll n a k
moved_value move.Right n a k = binary_value binary.Srl n a k
moved_value move.Signed n a k = binary_value binary.Sra n a k
moved_value move.TurnLeft n a k = binary_value binary.Rol n a k
moved_value move.TurnRight n a k = binary_value binary.Ror n a k

-- what moves in, in so many places: zeros, or the highest bit
abbrev pub entering_value : Move → ℕ → ℕ → ℕ → ℕ
entering_value move.Signed n a k = ite_value (a / 2 ^ (n - 1) % 2 ^ 1) (ones k) 0
entering_value move.Left n a k = 0
entering_value move.Right n a k = 0
entering_value move.TurnLeft n a k = 0
entering_value move.TurnRight n a k = 0

-- the low part: how many bits it has, and its word
abbrev pub low_bits : Move → ℕ → ℕ → ℕ
low_bits move.Left n k = k
low_bits move.TurnLeft n k = k
low_bits move.Right n k = n - k
low_bits move.Signed n k = n - k
low_bits move.TurnRight n k = n - k

abbrev pub low_value : Move → ℕ → ℕ → ℕ → ℕ
low_value move.Left n a k = 0
low_value move.TurnLeft n a k = a / 2 ^ (n - k) % 2 ^ k
low_value move.Right n a k = a / 2 ^ k % 2 ^ (n - k)
low_value move.Signed n a k = a / 2 ^ k % 2 ^ (n - k)
low_value move.TurnRight n a k = a / 2 ^ k % 2 ^ (n - k)

-- the high part
abbrev pub high_bits : Move → ℕ → ℕ → ℕ
high_bits move.Left n k = n - k
high_bits move.TurnLeft n k = n - k
high_bits move.Right n k = k
high_bits move.Signed n k = k
high_bits move.TurnRight n k = k

abbrev pub high_value : Move → ℕ → ℕ → ℕ → ℕ
high_value move.Left n a k = a / 2 ^ 0 % 2 ^ (n - k)
high_value move.Right n a k = 0
high_value move.Signed n a k = ite_value (a / 2 ^ (n - 1) % 2 ^ 1) (ones k) 0
high_value move.TurnLeft n a k = a / 2 ^ 0 % 2 ^ (n - k)
high_value move.TurnRight n a k = a / 2 ^ 0 % 2 ^ k

-- the shifts, which an amount of the width and above leaves nothing of
abbrev pub is_shift : Move → Bool
is_shift move.Left = true
is_shift move.Right = true
is_shift move.Signed = true
is_shift _ = false
