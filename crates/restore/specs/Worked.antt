-- Worked circuits.
use Rattle.std.specs.Prelude.{[], ◌∷◌}
use Rattle.aiger.specs.Circuit.{Circuit, fresh_circuit}

-- bad where the second input is 1, with a first input that is to be 1
abbrev pub watched : Circuit
watched = record (fresh_circuit 2 0) { bads = 4 ∷ []; constraints = 2 ∷ [] }

-- bad where both inputs are 1
abbrev pub both_inputs : Circuit
both_inputs = record (fresh_circuit 2 0) { gates = record { rhs0 = 4; rhs1 = 2 } ∷ []; bads = 6 ∷ [] }

-- bad in each frame, without inputs and latches
abbrev pub always_bad : Circuit
always_bad = record (fresh_circuit 0 0) { bads = 1 ∷ [] }
