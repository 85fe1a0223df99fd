use Rattle.std.proofs.Common.{◌-◌, [], length}
use Rattle.std.specs.BinaryHeap.{heap_items}
use Rattle.aigerlists.specs.Readiness.{IsUnderway, times_ready}
use Rattle.aigerlists.proofs.readiness.take_ready.Given as goal

abbrev pub ghost-take : goal.ghost-take
ghost-take g a = g.passed

abbrev pub invariant-loop-gate : goal.invariant-loop-gate
invariant-loop-gate g l = IsUnderway g.passed.slots g.passed.gates g.passed.bound l.order.items [] l.heads.items l.links.items (times_ready l.ready.first (heap_items l.ready.others))

abbrev pub decreases-loop-gate : goal.decreases-loop-gate
decreases-loop-gate g l = g.passed.gates - length l.order.items
