use Rattle.blast.proofs.LatchLemmas.{WithRow}
use Rattle.blast.proofs.latches.set_row.Given as goal

abbrev pub invariant-loop-bit : goal.invariant-loop-bit
invariant-loop-bit l = WithRow l.fn.circuit l.circuit l.first l.init l.row l.bit
