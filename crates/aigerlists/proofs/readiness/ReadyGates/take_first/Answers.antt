use Rattle.std.proofs.Common.{ℕ, Option, None, Some, refl, ap, sym, ◌∙◌, subst}
use Rattle.std.specs.BinaryHeap.{heap_items}
use Rattle.std.specs.declared.cmp.Reverse.{Reverse}
use Rattle.aigerlists.specs.Readiness.{times_ready, IsFirstReady}
use Rattle.aigerlists.proofs.ReadinessLemmas.{times_pushed, apart_first, first_same}
use Rattle.aigerlists.proofs.readiness.ReadyGates.take_first.Goals as goal

pub returns-then-is_before : goal.returns-then-is_before
returns-then-is_before c =
    subst (λ (first : Option ℕ). IsFirstReady (Some c.in-Some.gate) (times_ready first (heap_items c.args.self.now.others)) (times_ready None (heap_items c.args.self.now.others))) (sym c.in-Some.is) (apart_first c.in-Some.gate (heap_items c.args.self.now.others) (c.if-is_before.ensures refl))

pub returns : goal.returns
returns c =
    let x : Reverse ℕ = record { 0 = c.in-Some.gate } in
    first_same c.pop_first-2.result _ (times_ready None (heap_items c.push.new.self)) _ (λ i. times_pushed i x (heap_items c.args.self.now.others) (heap_items c.push.new.self) c.in_ok-push.ensures.permutation ∙ ap (λ (first : Option ℕ). times_ready first (heap_items c.args.self.now.others) i) (sym c.in-Some.is)) c.pop_first-2.ensures.first
