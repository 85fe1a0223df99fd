use Rattle.std.proofs.Common.{◌∷◌, [], ℕ, Option, ap, arith, length, length-append, subst}
use Rattle.std.specs.BinaryHeap.{heap_items}
use Rattle.aigerlists.specs.Readiness.{times_ready, IsFirstReady}
use Rattle.aigerlists.proofs.ReadinessLemmas.{popped, few_next}
use Rattle.aigerlists.proofs.readiness.take_ready.Goals as goal

pub take-requires : goal.take-requires
take-requires g c =
    popped g.passed.slots g.passed.gates g.passed.bound c.loop-gate.order.items c.loop-gate.heads.items c.loop-gate.links.items _ _ c.in-Some.gate c.loop-gate.invariant
    (subst (λ (o : Option ℕ). IsFirstReady o (times_ready c.loop-gate.ready.first (heap_items c.loop-gate.ready.others)) (times_ready c.take_first.new.self.first (heap_items c.take_first.new.self.others))) c.in-Some.is c.in_ok-gate.ensures)

pub loop-gate-smaller : goal.loop-gate-smaller
loop-gate-smaller g c =
    omega (arith, few_next g.passed.slots g.passed.gates c.take.new.order.items c.in_ok-take.ensures.underway.in_turn, ap length c.in_ok-take.ensures.order, length-append c.loop-gate.order.items (c.in-Some.gate ∷ []))
