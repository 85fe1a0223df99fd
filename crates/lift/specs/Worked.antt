-- A worked row: a model of an input of three bits and a state of one bit, and its circuit.
use Rattle.std.specs.Prelude.{List, [], ◌∷◌, codes}
use Rattle.btor2.specs.declared.item.Item.{Item}
use Rattle.btor2.specs.declared.item.Body.TheVariants as body
use Rattle.btor2.specs.Worked.{line}
use Rattle.aiger.specs.declared.circuit.Reset.TheVariants as reset
use Rattle.aiger.specs.Circuit.{Circuit}
use Rattle.blast.specs.Worked.{named_item}

-- the state takes the highest bit of the input, and is bad where it is 1
abbrev pub high_bit : List Item
high_bit =
    line 1 (body.Sort 3)
    ∷ line 2 (body.Sort 1)
    ∷ named_item 3 (codes "x") (body.Input 1)
    ∷ named_item 4 (codes "s") (body.State 2)
    ∷ line 5 (body.Slice 2 3 2 2)
    ∷ line 6 (body.Next 2 4 5)
    ∷ line 7 (body.Bad 4)
    ∷ []

abbrev pub high_bit_circuit : Circuit
high_bit_circuit =
    record {
      inputs = 3;
      latches = record { next = 6; reset = reset.Free } ∷ [];
      gates = [];
      outputs = [];
      bads = 8 ∷ [];
      constraints = [];
      justice = [];
      fair = [];
      names = ((0, 0), codes "x[0]") ∷ ((0, 1), codes "x[1]") ∷ ((0, 2), codes "x[2]") ∷ ((1, 0), codes "s[0]") ∷ [];
    }
