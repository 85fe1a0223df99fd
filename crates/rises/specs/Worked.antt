-- Worked rows: a model of an input with three bad properties, and a circuit of an input with two.
use Rattle.std.specs.Prelude.{List, [], ◌∷◌}
use Rattle.base.specs.declared.operators.Unary.TheVariants as unary
use Rattle.btor2.specs.declared.item.Item.{Item}
use Rattle.btor2.specs.declared.item.Body.TheVariants as body
use Rattle.btor2.specs.Worked.{line}
use Rattle.aiger.specs.Circuit.{Circuit}
use Rattle.witness.specs.Worked.{one_input}

-- an input of one bit and its negation: the first bad property is 1 where the input is, the second where it is not, and the third nowhere
abbrev pub input_and_negation : List Item
input_and_negation =
    line 1 (body.Sort 1)
    ∷ line 2 (body.Input 1)
    ∷ line 3 (body.Unary unary.Not 1 2)
    ∷ line 4 (body.Zero 1)
    ∷ line 5 (body.Bad 2)
    ∷ line 6 (body.Bad 3)
    ∷ line 7 (body.Bad 4)
    ∷ []

-- an input; the first bad property is 1 where it is, the second where it is not
abbrev pub either_input : Circuit
either_input = record one_input { bads = 2 ∷ 3 ∷ [] }
