use Rattle.writeout.specs.Tables.{writing}
use Rattle.writeout.specs.Ordered.{OrderPut}
use Rattle.writeout.proofs.putting.put_nodes.Given as goal

abbrev pub invariant-loop-place : goal.invariant-loop-place
invariant-loop-place l = OrderPut l.full l.order l.place-index (writing l.tables l.maker)
