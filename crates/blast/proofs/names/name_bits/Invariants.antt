use Rattle.blast.proofs.NameLemmas.{WithBits}
use Rattle.blast.proofs.names.name_bits.Given as goal

abbrev pub invariant-loop-bit : goal.invariant-loop-bit
invariant-loop-bit l = WithBits l.section l.fn.circuit l.circuit l.symbol l.first l.bit
