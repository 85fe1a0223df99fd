-- Worked rows: a latch that stays as it is, and a circuit with a gate, two latches and an input.
use Rattle.std.specs.Prelude.{ℕ, List, [], ◌∷◌}
use Rattle.aiger.specs.declared.circuit.Reset.TheVariants.{Zero}
use Rattle.aiger.specs.Circuit.{Circuit}
use Rattle.aiger.specs.Worked.{toggler}

-- one latch that begins with 0 and takes itself, and is bad where it is 1
abbrev pub kept_zero : Circuit
kept_zero = record toggler { latches = record { next = 2; reset = Zero } ∷ [] }

-- an input, two latches and a gate: the first latch takes the gate of the input and the second latch negated, the second one 1; bad is the negation of the
-- first latch
abbrev pub gated : Circuit
gated =
    record toggler {
      inputs = 1;
      latches = record { next = 8; reset = Zero } ∷ record { next = 1; reset = Zero } ∷ [];
      gates = record { rhs0 = 7; rhs1 = 2 } ∷ [];
      bads = 5 ∷ [];
    }

-- the states in which the first latch is 1; and those in which it is 1 and the second is 0
abbrev pub first_is_one : List ℕ
first_is_one = 2 ∷ []

abbrev pub one_and_zero : List ℕ
one_and_zero = 2 ∷ 5 ∷ []
