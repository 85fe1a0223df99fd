-- The models of single operators, which vectors are checked by.
use Rattle.std.specs.Prelude.{List, ℕ, Bool, [], ◌∷◌, ◌++◌, None}
use Rattle.base.specs.Widths.{unary_width, binary_width}
use Rattle.base.specs.Word.{bits}
use Rattle.btor2.specs.declared.item.Item.{Item}
use Rattle.btor2.specs.declared.item.Body.{Body}
use Rattle.btor2.specs.declared.item.Body.TheVariants as body
use Rattle.vectors.specs.declared.lines.Vector.{Vector}
use Rattle.vectors.specs.declared.lines.Vector.TheVariants as vector

-- a line without a name
abbrev pub operator_line : ℕ → Body → Item
operator_line id says = record { id = id; symbol = None; body = says }

-- the model of a vector's operator at its width: the sorts of the operands and of the result, an input for each operand, the operator, and its output
abbrev pub items_of : Vector → List Item
items_of (vector.Unary op n a r) =
    operator_line 1 (body.Sort n) ∷ operator_line 2 (body.Sort (unary_width op n)) ∷ operator_line 3 (body.Input 1) ∷ operator_line 4 (body.Unary op 2 3) ∷ operator_line 5 (body.Output 4) ∷ []
items_of (vector.Binary op n a b r) =
    operator_line 1 (body.Sort n) ∷ operator_line 2 (body.Sort (binary_width op n)) ∷ operator_line 3 (body.Input 1) ∷ operator_line 4 (body.Input 1) ∷ operator_line 5 (body.Binary op 2 3 4) ∷ operator_line 6 (body.Output 5) ∷ []

-- the bits of a vector's operands, the first operand's before the second's, the lowest first
abbrev pub operand_bits : Vector → List Bool
operand_bits (vector.Unary op n a r) = bits n a
operand_bits (vector.Binary op n a b r) = bits n a ++ bits n b
