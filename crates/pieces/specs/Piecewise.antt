-- Operators that go node by node.
use Rattle.std.specs.Prelude.{◌≡◌, ℕ, Bool, true, false, List}
use Rattle.base.specs.declared.operators.Unary.TheVariants as unary
use Rattle.base.specs.declared.operators.Binary.{Binary}
use Rattle.base.specs.declared.operators.Binary.TheVariants as binary
use Rattle.base.specs.Operator.{unary_value, binary_value, ite_value}
use Rattle.btor2.specs.declared.item.Item.{Item}
use Rattle.btor2.specs.Trace.{Frame}
use Rattle.pieces.specs.declared.piecewise.Each.{Each}
use Rattle.pieces.specs.declared.piecewise.Each.TheVariants as each
use Rattle.pieces.specs.Nodes.{IsNode}

-- the operators that give each bit by the bits at its place
abbrev pub is_bitwise : Binary → Bool
is_bitwise binary.And = true
is_bitwise binary.Nand = true
is_bitwise binary.Or = true
is_bitwise binary.Nor = true
is_bitwise binary.Xor = true
is_bitwise binary.Xnor = true
is_bitwise _ = false

-- what may stand there: a bitwise operator, and as a condition a node of one bit
abbrev pub IsEach : List Item → Each → Type 0
IsEach items each.Not = Unit {0}
IsEach items (each.Bitwise op) = is_bitwise op ≡ true
IsEach items (each.Choice c) = IsNode items c × (c.width ≡ 1)

-- the word that it gives for two words of a width
abbrev pub piece_value : Frame → Each → ℕ → ℕ → ℕ → ℕ
piece_value g each.Not n x y = unary_value unary.Not n x
piece_value g (each.Bitwise op) n x y = binary_value op n x y
piece_value g (each.Choice c) n x y = ite_value (g c.id) x y
