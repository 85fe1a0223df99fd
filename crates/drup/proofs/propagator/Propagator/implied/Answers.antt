use Rattle.std.proofs.Common.{◌≡◌, ℕ, List, length, sym, subst, ap, ◌∙◌, arith}
use Rattle.std.proofs.lemmas.List.{with_items_is}
use Rattle.std.specs.Prelude.{IsTrue, IfOk, ◌↔◌}
use Rattle.drup.specs.Propagator.{State, KeepsPropagator, in_list}
use Rattle.drup.specs.Propagation.{Implied}
use Rattle.drup.specs.Watched.{AreMet}
use Rattle.drup.proofs.AddLemmas.{state_from, undone_is, KeepsPropagator-moved}
use Rattle.drup.proofs.propagator.Propagator.implied.Goals as goal

pub invariant_of-self : goal.invariant_of-self
invariant_of-self c =
    let x = c.meets_conflict-met.ensures.extends in
    let same : c.undo.new.self ≡ c.self.inside.trail = undone_is c.len-root.result c.self.inside.trail c.meets_conflict-met.new.trail c.undo.new.self c.len-root.ensures.count x c.undo.ensures.order c.undo.ensures.as_many c.len-root.ensures.marked c.len-root.ensures.placed c.undo.ensures.marked c.undo.ensures.placed in
    let moved = with_items_is c.self.inside.watched c.meets_conflict-met.new.watched (omega (arith, c.meets_conflict-met.ensures.stays.as_many, ap length c.deref_mut.ensures.value)) in (
      subst (λ (ws : List ℕ). KeepsPropagator c.self.inside.clauses ws c.meets_conflict-met.new.lists c.undo.new.self) (sym moved)
          (KeepsPropagator-moved c.self.inside.clauses c.self.inside.watched.items c.deref_mut.result.now c.meets_conflict-met.new.watched c.self.inside.lists c.meets_conflict-met.new.lists c.self.inside.trail c.undo.new.self
          c.self.invariant.0 c.deref_mut.ensures.value c.meets_conflict-met.ensures.watched c.meets_conflict-met.ensures.stays same),
      c.self.invariant.1,
    )

pub returns-clause-same : goal.returns-clause-same
returns-clause-same c =
    let x = c.meets_conflict-met.ensures.extends in
    let same : c.undo.new.self ≡ c.self.inside.trail = undone_is c.len-root.result c.self.inside.trail c.meets_conflict-met.new.trail c.undo.new.self c.len-root.ensures.count x c.undo.ensures.order c.undo.ensures.as_many c.len-root.ensures.marked c.len-root.ensures.placed c.undo.ensures.marked c.undo.ensures.placed in
    ap (state_from c.self.inside.clauses) same ∙ c.self.view_is

pub returns-clause-exact : goal.returns-clause-exact
returns-clause-exact c =
    subst (λ (f : State). IfOk c.meets_conflict-met.result (λ met. IsTrue met ↔ Implied f.clauses (in_list f.followed) c.args.clause.now)) c.self.view_is c.meets_conflict-met.ensures.exact

pub meets_conflict-met-requires-clause-met : goal.meets_conflict-met-requires-clause-met
meets_conflict-met-requires-clause-met c = subst (λ (ws : List ℕ). AreMet c.self.inside.clauses ws c.self.inside.trail) (sym c.deref_mut.ensures.value) c.self.invariant.0.are_met
