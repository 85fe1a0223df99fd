-- Worked circuits: of nothing, a latch that toggles, a latch that keeps its bit, one gate, and properties of each kind.
use Rattle.std.specs.Prelude.{ℕ, [], ◌∷◌, codes}
use Rattle.aiger.specs.declared.circuit.Reset.{Reset}
use Rattle.aiger.specs.declared.circuit.Reset.TheVariants.{Zero, Free}
use Rattle.aiger.specs.declared.circuit.Section.TheVariants.{Input, Latch, Output, Constraint, Justice, Fair}
use Rattle.aiger.specs.Circuit.{Circuit, rank}

-- a circuit of nothing
abbrev pub nothing : Circuit
nothing = record { inputs = 0; latches = []; gates = []; outputs = []; bads = []; constraints = []; justice = []; fair = []; names = [] }

-- one latch with this next literal and this reset, named t[0], and bad where it is 1
abbrev pub one_latch : ℕ → Reset → Circuit
one_latch next reset = record nothing { latches = record { next = next; reset = reset } ∷ []; bads = 2 ∷ []; names = ((rank Latch, 0), codes "t[0]") ∷ [] }

-- the latch begins with 0 and takes its negation
abbrev pub text_toggler : Circuit
text_toggler = one_latch 3 Zero

-- the latch has no initial value and keeps its bit
abbrev pub free_state : Circuit
free_state = one_latch 2 Free

-- two inputs and a gate of them, which is an output
abbrev pub one_output : Circuit
one_output = record nothing { inputs = 2; gates = record { rhs0 = 4; rhs1 = 2 } ∷ []; outputs = 6 ∷ [] }

-- the same with names, where the gate is a constraint
abbrev pub one_gate : Circuit
one_gate = record one_output { outputs = []; constraints = 6 ∷ []; names = ((rank Input, 0), codes "a") ∷ ((rank Constraint, 0), codes "both") ∷ [] }

-- one input, two outputs, justice properties of two literals and of none, and a fairness constraint, with names given to some
abbrev pub all_kinds : Circuit
all_kinds =
    record nothing {
      inputs = 1;
      outputs = 2 ∷ 3 ∷ [];
      justice = (2 ∷ 3 ∷ []) ∷ [] ∷ [];
      fair = 1 ∷ [];
      names = ((rank Output, 1), codes "y") ∷ ((rank Justice, 1), codes "j") ∷ ((rank Fair, 0), codes "f") ∷ [];
    }

-- an input, whose negation is an output
abbrev pub negated_input : Circuit
negated_input = record nothing { inputs = 1; outputs = 3 ∷ [] }

-- an input, a latch that takes a gate's bit, and the gate of the input and the latch's negation
abbrev pub in_turn : Circuit
in_turn = record nothing { inputs = 1; latches = record { next = 6; reset = Zero } ∷ []; gates = record { rhs0 = 5; rhs1 = 2 } ∷ [] }
