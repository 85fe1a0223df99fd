use Rattle.blast.specs.Table.{LowersFront}
use Rattle.blast.proofs.nodes.lower_nodes.Given as goal

abbrev pub invariant-loop-place : goal.invariant-loop-place
invariant-loop-place g l = LowersFront l.model l.place l.gates l.table l.next
