-- Worked circuits, their engine forms, what is none, and circuits that have the outputs of others as bad properties.
use Rattle.std.specs.Prelude.{[], ◌∷◌, codes}
use Rattle.aiger.specs.declared.circuit.Reset.TheVariants.{Zero, One, Free}
use Rattle.aiger.specs.Circuit.{Circuit, fresh_circuit}

-- a latch that begins with 1 and takes its negation, bad where it is 1
abbrev pub negated_toggler : Circuit
negated_toggler = record (fresh_circuit 0 1) { latches = record { next = 3; reset = One } ∷ []; bads = 2 ∷ [] }

-- its form: an input that nothing reads, and a latch that is the negation
abbrev pub toggler_form : Circuit
toggler_form = record (fresh_circuit 1 1) { latches = record { next = 5; reset = Zero } ∷ []; bads = 5 ∷ [] }

-- the same where the negation is forgotten in what the latch takes, so that it stays 0
abbrev pub stays_negated : Circuit
stays_negated = record toggler_form { latches = record { next = 4; reset = Zero } ∷ [] }

-- a latch without an initial value that keeps its bit, bad where it is 1
abbrev pub keeper : Circuit
keeper = record (fresh_circuit 0 1) { latches = record { next = 2; reset = Free } ∷ []; bads = 2 ∷ [] }

-- its form: the input in the first frame, and the first latch in later ones, which the second one tells
abbrev pub keeper_form : Circuit
keeper_form =
    record (fresh_circuit 1 2) {
      latches = record { next = 13; reset = Zero } ∷ record { next = 1; reset = Zero } ∷ [];
      gates = record { rhs0 = 6; rhs1 = 4 } ∷ record { rhs0 = 7; rhs1 = 2 } ∷ record { rhs0 = 11; rhs1 = 9 } ∷ [];
      bads = 13 ∷ [];
    }

-- the same where the latch begins with 0, whatever the input
abbrev pub begins_with_0 : Circuit
begins_with_0 = record (fresh_circuit 1 2) { latches = record { next = 4; reset = Zero } ∷ record { next = 1; reset = Zero } ∷ []; bads = 4 ∷ [] }

-- bad in each frame, with an input that is to be 1
abbrev pub guarded : Circuit
guarded = record (fresh_circuit 1 0) { bads = 1 ∷ []; constraints = 2 ∷ [] }

-- its form: a latch that is 1 where the input was 0 in an earlier frame, and bad where the input is 1 and was so far
abbrev pub guarded_form : Circuit
guarded_form = record (fresh_circuit 1 1) { latches = record { next = 7; reset = Zero } ∷ []; gates = record { rhs0 = 5; rhs1 = 2 } ∷ []; bads = 6 ∷ [] }

-- the same where the constraint counts in its own frame alone
abbrev pub guarded_alone : Circuit
guarded_alone = record guarded_form { bads = 2 ∷ [] }

-- two bad properties, and the form with the second one alone
abbrev pub either : Circuit
either = record (fresh_circuit 1 0) { bads = 2 ∷ 3 ∷ [] }

abbrev pub second_form : Circuit
second_form = record (fresh_circuit 1 1) { bads = 3 ∷ [] }

-- two outputs, and no bad property
abbrev pub outputs_alone : Circuit
outputs_alone = record (fresh_circuit 1 0) { outputs = 2 ∷ 3 ∷ [] }

-- `aag 3 1 1 1 1`, `2`, `4 2`, `6`, `6 4 2`: an output that is 1 where an input is and was in the frame before
abbrev pub conjunction : Circuit
conjunction =
    record (fresh_circuit 1 1) {
      latches = record { next = 2; reset = Zero } ∷ [];
      gates = record { rhs0 = 4; rhs1 = 2 } ∷ [];
      outputs = 6 ∷ [];
    }

-- the same as a bad property
abbrev pub conjunction_bad : Circuit
conjunction_bad = record conjunction { outputs = []; bads = 6 ∷ [] }

-- the same circuit where the latch begins with 1 and the input is to be 1, with a bad property, the input, and with names
abbrev pub named_circuit : Circuit
named_circuit =
    record conjunction {
      latches = record { next = 2; reset = One } ∷ [];
      bads = 2 ∷ [];
      constraints = 2 ∷ [];
      names = ((2, 0), codes "out") ∷ ((3, 0), codes "low") ∷ [];
    }

-- its output is its second bad property
abbrev pub named_bad : Circuit
named_bad = record named_circuit { outputs = []; bads = 2 ∷ 6 ∷ []; names = ((3, 0), codes "low") ∷ ((3, 1), codes "out") ∷ [] }
