use Rattle.std.proofs.Common.{take}
use Rattle.blast.specs.Properties.{names_by, Adds}
use Rattle.blast.proofs.properties.push_row.Given as goal

abbrev pub invariant-loop-bit : goal.invariant-loop-bit
invariant-loop-bit l = Adds l.property l.fn.circuit (take l.bit l.row) (names_by l.property l.symbol 0 l.bit) l.circuit
