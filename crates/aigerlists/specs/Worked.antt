-- Worked files and the circuits that they are as numbered: two gates in each order, a cycle, and a latch that toggles.
use Rattle.std.specs.Prelude.{[], ◌∷◌, false, ◌==◌}
use Rattle.aiger.specs.declared.circuit.Reset.TheVariants.{Free}
use Rattle.base.specs.Literal.{Valuation}
use Rattle.aiger.specs.Circuit.{Circuit, fresh_circuit}
use Rattle.aiger.specs.Worked.{toggler}
use Rattle.aigerlists.specs.Loose.{Loose, empty_loose}

-- two inputs and two gates, the second of which in the file has the first one's variable in an operand; the output is the second one
abbrev pub crossed : Loose
crossed =
    record empty_loose {
      inputs = 2 ∷ 4 ∷ [];
      gates = record { lhs = 14; rhs0 = 2; rhs1 = 5 } ∷ record { lhs = 12; rhs0 = 14; rhs1 = 3 } ∷ [];
      outputs = 12 ∷ [];
    }

-- the same with the gates exchanged, so that one is used before its line
abbrev pub backwards : Loose
backwards =
    record empty_loose {
      inputs = 2 ∷ 4 ∷ [];
      gates = record { lhs = 12; rhs0 = 14; rhs1 = 3 } ∷ record { lhs = 14; rhs0 = 2; rhs1 = 5 } ∷ [];
      outputs = 12 ∷ [];
    }

-- the circuit that both are as numbered
abbrev pub straight : Circuit
straight = record (fresh_circuit 2 0) { gates = record { rhs0 = 5; rhs1 = 2 } ∷ record { rhs0 = 6; rhs1 = 3 } ∷ []; outputs = 8 ∷ [] }

-- two gates of which each has the other's variable in an operand
abbrev pub looped : Loose
looped =
    record empty_loose {
      inputs = 2 ∷ [];
      gates = record { lhs = 4; rhs0 = 6; rhs1 = 2 } ∷ record { lhs = 6; rhs0 = 4; rhs1 = 2 } ∷ [];
      outputs = 4 ∷ [];
    }

-- a latch that toggles, under the variable 5, with its own literal as reset
abbrev pub loose_toggler : Loose
loose_toggler =
    record empty_loose {
      latches = record { current = 10; next = 11; reset = Free } ∷ [];
      outputs = 10 ∷ [];
    }

-- the circuit that it is as numbered: a latch that may begin with either bit
abbrev pub toggler_of_any : Circuit
toggler_of_any = record toggler { latches = record { next = 3; reset = Free } ∷ []; outputs = 2 ∷ []; bads = [] }

-- its variable is 0, and 1
abbrev pub named_off : Valuation
named_off k = false

abbrev pub named_on : Valuation
named_on k = k == 5

-- an input, an output of it, a justice property of it and an unknown variable, and a gate of another one
abbrev pub unknown : Loose
unknown =
    record empty_loose {
      inputs = 2 ∷ [];
      outputs = 3 ∷ 1 ∷ [];
      justice = [] ∷ (2 ∷ 9 ∷ []) ∷ [];
      gates = record { lhs = 4; rhs0 = 2; rhs1 = 7 } ∷ [];
    }

-- a gate of which no other has the variable, one whose first operand is of its own variable, and one between them
abbrev pub led : Loose
led =
    record empty_loose {
      inputs = 2 ∷ [];
      gates = record { lhs = 8; rhs0 = 6; rhs1 = 2 } ∷ record { lhs = 4; rhs0 = 4; rhs1 = 2 } ∷ record { lhs = 6; rhs0 = 4; rhs1 = 2 } ∷ [];
    }

-- inputs whose variables are numbered against the order of their lines, one of them the greatest there is; the output is the one that stands first
abbrev pub far : Loose
far = record empty_loose { inputs = 2147483648 ∷ 2 ∷ []; outputs = 2147483648 ∷ [] }

-- an input, a literal of each section, and a name
abbrev pub of_each : Loose
of_each =
    record empty_loose {
      inputs = 6 ∷ [];
      outputs = 6 ∷ [];
      bads = 7 ∷ [];
      constraints = 1 ∷ [];
      justice = (6 ∷ []) ∷ [];
      fair = 7 ∷ [];
      names = ((0, 0), 97 ∷ []) ∷ [];
    }

-- the circuit that it is as numbered
abbrev pub of_each_numbered : Circuit
of_each_numbered = record (fresh_circuit 1 0) { outputs = 2 ∷ []; bads = 3 ∷ []; constraints = 1 ∷ []; justice = (2 ∷ []) ∷ []; fair = 3 ∷ []; names = ((0, 0), 97 ∷ []) ∷ [] }
