use Rattle.std.proofs.Common.{◌≡◌, ◌*◌, ◌-◌, ◌<◌, length, sym, arith}
use Rattle.std.specs.BinaryHeap.{heap_items}
use Rattle.aigerlists.specs.Readiness.{slot_at, times_ready}
use Rattle.aigerlists.proofs.ReadinessLemmas.{read_at, walk_begins, walk_at, at_place, walk_step, walk_left, walk_ends}
use Rattle.aigerlists.proofs.readiness.take.Goals as goal

pub loop-at-init : goal.loop-at-init
loop-at-init g c =
    let low : c.args.gate < length c.args.heads.now.items = omega (arith, c.requires.within, c.requires.underway.low, c.requires.underway.marks.count) in
    rw (c.in_ok-push.ensures.items, sym (read_at c.args.heads.now.items c.args.gate c.index-at.result.now low c.index-at.ensures)) (walk_begins _ _ _ _ _ _ _ c.args.gate c.requires)

pub index-at-requires-in-loop-at : goal.index-at-requires-in-loop-at
index-at-requires-in-loop-at g c = omega (arith, (at_place _ _ _ _ _ _ _ _ _ (walk_at _ _ _ _ _ _ _ c.loop-at.at c.loop-at.invariant c.loop-at-test.true)).0)

pub look_again-requires-clause-place : goal.look_again-requires-clause-place
look_again-requires-clause-place g c = (at_place _ _ _ _ _ _ _ _ _ (walk_at _ _ _ _ _ _ _ c.loop-at.at c.loop-at.invariant c.loop-at-test.true)).0

pub look_again-requires-clause-within : goal.look_again-requires-clause-within
look_again-requires-clause-within g c = (at_place _ _ _ _ _ _ _ _ _ (walk_at _ _ _ _ _ _ _ c.loop-at.at c.loop-at.invariant c.loop-at-test.true)).1

pub loop-at-smaller : goal.loop-at-smaller
loop-at-smaller g c =
    let a = walk_at _ _ _ _ _ _ _ c.loop-at.at c.loop-at.invariant c.loop-at-test.true in
    let next : c.index-at-in-loop-at.result.now ≡ slot_at c.loop-at.links.items (2 * (c.loop-at.at - 2)) = sym (read_at c.loop-at.links.items (2 * (c.loop-at.at - 2)) c.index-at-in-loop-at.result.now (omega (arith, (at_place _ _ _ _ _ _ _ _ _ a).0)) c.index-at-in-loop-at.ensures) in
    let step = walk_step _ _ _ _ _ _ c.look_again.new.heads.items c.look_again.new.links.items _ (times_ready c.look_again.new.ready.first (heap_items c.look_again.new.ready.others)) (c.loop-at.at - 2) _ c.index-at-in-loop-at.result.now a next c.in_ok-look_again.ensures.waits c.in_ok-look_again.ensures.ready in
    omega (arith, walk_left _ _ _ _ _ _ _ _ step.0, step.1, walk_left _ _ _ _ _ _ _ _ c.loop-at.invariant)

pub loop-at-preserved : goal.loop-at-preserved
loop-at-preserved g c =
    let a = walk_at _ _ _ _ _ _ _ c.loop-at.at c.loop-at.invariant c.loop-at-test.true in
    let next : c.index-at-in-loop-at.result.now ≡ slot_at c.loop-at.links.items (2 * (c.loop-at.at - 2)) = sym (read_at c.loop-at.links.items (2 * (c.loop-at.at - 2)) c.index-at-in-loop-at.result.now (omega (arith, (at_place _ _ _ _ _ _ _ _ _ a).0)) c.index-at-in-loop-at.ensures) in
    (walk_step _ _ _ _ _ _ c.look_again.new.heads.items c.look_again.new.links.items _ (times_ready c.look_again.new.ready.first (heap_items c.look_again.new.ready.others)) (c.loop-at.at - 2) _ c.index-at-in-loop-at.result.now a next c.in_ok-look_again.ensures.waits c.in_ok-look_again.ensures.ready).0

pub returns-clause-underway : goal.returns-clause-underway
returns-clause-underway g c = walk_ends _ _ _ _ _ _ _ c.loop-at.at c.loop-at.invariant c.loop-at-test.false
