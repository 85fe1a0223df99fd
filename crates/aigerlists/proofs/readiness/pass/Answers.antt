use Rattle.std.proofs.Common.{◌≡◌, ◌*◌, ℕ, List, false, [], subst, sym, refl}
use Rattle.std.specs.BinaryHeap.{heap_items}
use Rattle.aigerlists.specs.Readiness.{is_open, times_ready, IsUnderway, IsTaken}
use Rattle.aigerlists.proofs.ReadinessLemmas.{waits_for_first, waits_for_second, taken_at_once}
use Rattle.aigerlists.proofs.readiness.pass.Goals as goal

pub returns-then-wait-clause-underway : goal.returns-then-wait-clause-underway
returns-then-wait-clause-underway g c =
    rw (c.requires.0) (waits_for_first g.passed.slots g.passed.gates c.args.gate _ _ _ _ _ _ c.requires.1.1.0 c.requires.1.0 (sym c.if-wait.ensures.waits) (c.if-wait.ensures.put refl))

pub returns-then-wait-2-clause-underway : goal.returns-then-wait-2-clause-underway
returns-then-wait-2-clause-underway g c =
    let kept = c.if-wait.ensures.kept refl in
    let u : IsUnderway g.passed.slots g.passed.gates c.args.gate c.args.order.now.items [] c.wait.new.heads.items c.wait.new.links.items (times_ready c.args.ready.now.first (heap_items c.args.ready.now.others)) = rw (kept.0, kept.1) c.requires.1.1.0 in
    let first : is_open c.wait.new.heads.items c.wait.new.links.items (2 * c.args.gate) ≡ false = rw (kept.0, kept.1) (sym c.if-wait.ensures.waits) in
    rw (c.requires.0) (waits_for_second g.passed.slots g.passed.gates c.args.gate _ _ _ _ _ _ u c.requires.1.0 first (sym c.if-wait-2.ensures.waits) (c.if-wait-2.ensures.put refl))

pub take-requires : goal.take-requires
take-requires g c =
    let kept = c.if-wait.ensures.kept refl in
    let kept_on = c.if-wait-2.ensures.kept refl in
    let u : IsUnderway g.passed.slots g.passed.gates c.args.gate c.args.order.now.items [] c.wait.new.heads.items c.wait.new.links.items (times_ready c.args.ready.now.first (heap_items c.args.ready.now.others)) = rw (kept.0, kept.1) c.requires.1.1.0 in
    let first : is_open c.wait.new.heads.items c.wait.new.links.items (2 * c.args.gate) ≡ false = rw (kept.0, kept.1) (sym c.if-wait.ensures.waits) in
    subst (λ (heads : List ℕ). IsTaken g.passed.slots g.passed.gates g.passed.bound c.args.order.now.items c.args.gate heads c.wait-2.new.links.items (times_ready c.args.ready.now.first (heap_items c.args.ready.now.others))) (sym kept_on.0)
    (subst (λ (links : List ℕ). IsTaken g.passed.slots g.passed.gates g.passed.bound c.args.order.now.items c.args.gate c.wait.new.heads.items links (times_ready c.args.ready.now.first (heap_items c.args.ready.now.others))) (sym kept_on.1)
    (rw (c.requires.0) (taken_at_once g.passed.slots g.passed.gates c.args.gate _ _ _ _ u c.requires.1.0 c.requires.1.1.1 first (sym c.if-wait-2.ensures.waits))))
