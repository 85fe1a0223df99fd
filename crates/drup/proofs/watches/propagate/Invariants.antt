use Rattle.std.proofs.Common.{◌-◌, length}
use Rattle.drup.proofs.WalkLemmas.{Propagating}
use Rattle.drup.proofs.watches.propagate.Given as goal

abbrev pub invariant-loop-head : goal.invariant-loop-head
invariant-loop-head l = Propagating l.clauses (length l.fn.trail.marks) l.from l.fn.watched l.fn.trail l.watched l.lists l.trail l.head

abbrev pub decreases-loop-head : goal.decreases-loop-head
decreases-loop-head l = length l.fn.trail.marks - l.head
