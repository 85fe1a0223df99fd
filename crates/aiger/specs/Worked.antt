-- Worked circuits: a latch that toggles, and one gate.
use Rattle.std.specs.Prelude.{ℕ, [], ◌∷◌, false, ◌==◌}
use Rattle.aiger.specs.declared.circuit.Reset.TheVariants.{Zero}
use Rattle.base.specs.Literal.{Valuation}
use Rattle.aiger.specs.Net.{Net}
use Rattle.aiger.specs.Circuit.{Circuit, fresh_circuit}

-- one latch that begins with 0 and takes its negation, and is bad where it is 1
abbrev pub toggler : Circuit
toggler = record (fresh_circuit 0 1) { latches = record { next = 3; reset = Zero } ∷ []; bads = 2 ∷ [] }

-- its latch is 0, and 1
abbrev pub off : Valuation
off k = false

abbrev pub on : Valuation
on k = k == 1

-- one gate of two inputs, with these operands
abbrev pub one_gate_net : ℕ → ℕ → Net
one_gate_net rhs0 rhs1 =
    record { inputs = 2; latches = 0; gates = record { rhs0 = rhs0; rhs1 = rhs1 } ∷ [] }
