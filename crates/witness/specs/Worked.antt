-- Worked rows: the toggling model with a constraint, one with an input of three bits, and witnesses of the toggling model and of one with a free state; and
-- three circuits beside the one that toggles, and a witness of that one.
use Rattle.std.specs.Prelude.{false, List, [], ◌∷◌, ◌++◌, Some, None, codes}
use Rattle.aiger.specs.declared.circuit.Reset.TheVariants.{Free}
use Rattle.aiger.specs.Circuit.{Circuit}
use Rattle.aiger.specs.Worked.{toggler as toggling_circuit}
use Rattle.base.specs.declared.operators.Unary.TheVariants as unary
use Rattle.btor2.specs.declared.item.Item.{Item}
use Rattle.btor2.specs.declared.item.Body.TheVariants as body
use Rattle.btor2.specs.Worked.{line, toggler_model}
use Rattle.witness.specs.Texts.{Parts, Witness}
use Rattle.witness.specs.BitTexts.{BitWitness}

-- the toggling model, under the constraint that the bit is 0
abbrev pub constrained : List Item
constrained = toggler_model ++ line 8 (body.Constraint 5) ∷ []

-- an input of three bits, bad where it is not 0
abbrev pub wide : List Item
wide =
    line 1 (body.Sort 3)
    ∷ line 2 (body.Input 1)
    ∷ line 3 (body.Sort 1)
    ∷ line 4 (body.Unary unary.Redor 3 2)
    ∷ line 5 (body.Bad 4)
    ∷ []

-- the toggling bit is given 0, under a name, and rises in the second frame
abbrev pub given_zero : Parts
given_zero = record { states = None; inputs = [] }

abbrev pub rises : Witness
rises =
    record {
      claims = 0 ∷ [];
      frames = record { states = Some (record { index = 0; word = 0; symbol = Some (codes "t") } ∷ []); inputs = [] } ∷ given_zero ∷ [];
    }

-- the free state is 1 and then 0, and the other follows it
abbrev pub follows : Witness
follows =
    record {
      claims = 0 ∷ [];
      frames =
          record {
            states = Some (record { index = 0; word = 1; symbol = None } ∷ record { index = 1; word = 0; symbol = None } ∷ []);
            inputs = record { index = 0; word = 0; symbol = None } ∷ [];
          }
          ∷ record { states = Some (record { index = 0; word = 0; symbol = None } ∷ []); inputs = record { index = 0; word = 0; symbol = None } ∷ [] }
          ∷ [];
    }

-- the circuit of one latch that toggles, under the constraint that the latch is 0
abbrev pub constrained_circuit : Circuit
constrained_circuit = record toggling_circuit { constraints = 3 ∷ [] }

-- two latches that keep their bits and have no initial value; it is bad where the second is 1
abbrev pub kept_latches : Circuit
kept_latches = record toggling_circuit { latches = record { next = 2; reset = Free } ∷ record { next = 4; reset = Free } ∷ []; bads = 4 ∷ [] }

-- one input and no latch; it is bad where the input is 1
abbrev pub one_input : Circuit
one_input = record toggling_circuit { inputs = 1; latches = [] }

-- the latch begins with 0, and there are two frames
abbrev pub toggles_once : BitWitness
toggles_once = record { claim = 0; initial = false ∷ []; frames = [] ∷ [] ∷ [] }
