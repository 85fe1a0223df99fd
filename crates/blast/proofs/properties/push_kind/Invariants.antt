use Rattle.blast.proofs.PropertyLemmas.{WithKind}
use Rattle.blast.proofs.properties.push_kind.Given as goal

abbrev pub invariant-loop-place : goal.invariant-loop-place
invariant-loop-place l = WithKind l.property l.model l.table l.fn.circuit l.circuit l.place
