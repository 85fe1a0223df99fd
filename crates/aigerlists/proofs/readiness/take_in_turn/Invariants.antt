use Rattle.std.proofs.Common.{◌≡◌, ◌+◌, ℕ, []}
use Rattle.std.specs.BinaryHeap.{heap_items}
use Rattle.aigerlists.specs.Readiness.{IsUnderway, times_ready}
use Rattle.aigerlists.proofs.readiness.take_in_turn.Given as goal

abbrev pub ghost-pass : goal.ghost-pass
ghost-pass g a = record { slots = g.passed.slots; gates = g.passed.gates; bound = a.gate + 1 }

abbrev pub invariant-loop-gate : goal.invariant-loop-gate
invariant-loop-gate g l =
    record {
      underway : IsUnderway g.passed.slots g.passed.gates l.gate l.order.items [] l.heads.items l.links.items (times_ready l.ready.first (heap_items l.ready.others));
      none : (i : ℕ) → times_ready l.ready.first (heap_items l.ready.others) i ≡ 0;
    }
