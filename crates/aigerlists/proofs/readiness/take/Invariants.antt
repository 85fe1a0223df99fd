use Rattle.std.proofs.Common.{length}
use Rattle.std.specs.BinaryHeap.{heap_items}
use Rattle.aigerlists.specs.Readiness.{times_ready}
use Rattle.aigerlists.proofs.ReadinessLemmas.{IsWalk, walk_length}
use Rattle.aigerlists.proofs.readiness.take.Given as goal

abbrev pub invariant-loop-at : goal.invariant-loop-at
invariant-loop-at g l = IsWalk g.passed.slots g.passed.gates g.passed.bound l.order.items l.heads.items l.links.items (times_ready l.ready.first (heap_items l.ready.others)) l.at

abbrev pub decreases-loop-at : goal.decreases-loop-at
decreases-loop-at g l = walk_length l.links.items l.at (length l.heads.items)
