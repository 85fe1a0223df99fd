use Rattle.drup.specs.Watched.{ArePassed}
use Rattle.drup.proofs.watches.next_place.Given as goal

abbrev pub invariant-loop-next : goal.invariant-loop-next
invariant-loop-next l = ArePassed l.list l.watched l.place l.next l.trail
