use Rattle.std.proofs.Common.{◌≡◌, ◌<◌, ℕ, List, [], ◌∷◌, ◌++◌, ◌⊎◌, length, refl, sym, subst, ap, ◌∙◌, arith}
use Rattle.std.proofs.lemmas.List.{with_items_is}
use Rattle.std.specs.Vec.{with_items}
use Rattle.std.specs.Prelude.{All}
use Rattle.drup.specs.Propagator.{State, KeepsPropagator, Extended, in_list}
use Rattle.drup.specs.Propagation.{MeetsConflict, AllNegated}
use Rattle.drup.specs.Marked.{set_of}
use Rattle.drup.specs.Growth.{Falsifies}
use Rattle.drup.specs.Watched.{Chosen, AreMet}
use Rattle.drup.specs.Places.{last_at}
use Rattle.drup.proofs.PlacesLemmas.{AreLinked-same, AreLinked-behind}
use Rattle.drup.proofs.AddLemmas.{state_from, undone_is, extends_of, refuted, extended, KeepsPropagator-moved, KeepsPropagator-grown, KeepsPropagator-add, can_watch, KeepsPropagator-same}
use Rattle.drup.proofs.propagator.Propagator.add.Goals as goal

pub invariant_of-self : goal.invariant_of-self
invariant_of-self c =
    let same : c.undo.new.self ≡ c.self.inside.trail = undone_is c.len-root.result c.self.inside.trail c.settle.new.trail c.undo.new.self c.len-root.ensures.count (extends_of _ _ _ c.settle.ensures.grows) c.undo.ensures.order c.undo.ensures.as_many c.len-root.ensures.marked c.len-root.ensures.placed c.undo.ensures.marked c.undo.ensures.placed in
    let moved = with_items_is c.self.inside.watched c.settle.new.watched (omega (arith, c.settle.ensures.stays.as_many, ap length c.deref_mut.ensures.value)) in (
      subst (λ (ws : List ℕ). KeepsPropagator c.self.inside.clauses ws c.settle.new.lists c.undo.new.self) (sym moved)
          (KeepsPropagator-moved c.self.inside.clauses c.self.inside.watched.items c.deref_mut.result.now c.settle.new.watched c.self.inside.lists c.settle.new.lists c.self.inside.trail c.undo.new.self
          c.self.invariant.0 c.deref_mut.ensures.value c.settle.ensures.watched c.settle.ensures.stays same),
      c.self.invariant.1,
    )

pub invariant_of-self-in-Ok-None : goal.invariant_of-self-in-Ok-None
invariant_of-self-in-Ok-None c =
    let same : c.undo-in-Ok-None.new.self ≡ c.self.inside.trail = undone_is c.len-root.result c.self.inside.trail c.settle.new.trail c.undo-in-Ok-None.new.self c.len-root.ensures.count (extends_of _ _ _ c.settle.ensures.grows) c.undo-in-Ok-None.ensures.order c.undo-in-Ok-None.ensures.as_many c.len-root.ensures.marked c.len-root.ensures.placed c.undo-in-Ok-None.ensures.marked c.undo-in-Ok-None.ensures.placed in
    let moved = with_items_is c.self.inside.watched c.settle.new.watched (omega (arith, c.settle.ensures.stays.as_many, ap length c.deref_mut.ensures.value)) in (
      subst (λ (ws : List ℕ). KeepsPropagator c.self.inside.clauses ws c.settle.new.lists c.undo-in-Ok-None.new.self) (sym moved)
          (KeepsPropagator-moved c.self.inside.clauses c.self.inside.watched.items c.deref_mut.result.now c.settle.new.watched c.self.inside.lists c.settle.new.lists c.self.inside.trail c.undo-in-Ok-None.new.self
          c.self.invariant.0 c.deref_mut.ensures.value c.settle.ensures.watched c.settle.ensures.stays same),
      c.self.invariant.1,
    )

pub invariant_of-self-in-Err-put : goal.invariant_of-self-in-Err-put
invariant_of-self-in-Err-put c =
    let same : c.undo-in-Err-put.new.self ≡ c.self.inside.trail = undone_is c.len-root.result c.self.inside.trail c.settle.new.trail c.undo-in-Err-put.new.self c.len-root.ensures.count (extends_of _ _ _ c.settle.ensures.grows) c.undo-in-Err-put.ensures.order c.undo-in-Err-put.ensures.as_many c.len-root.ensures.marked c.len-root.ensures.placed c.undo-in-Err-put.ensures.marked c.undo-in-Err-put.ensures.placed in
    let moved = with_items_is c.self.inside.watched c.settle.new.watched (omega (arith, c.settle.ensures.stays.as_many, ap length c.deref_mut.ensures.value)) in (
      KeepsPropagator-same c.self.inside.clauses _ c.settle.new.lists c.undo-in-Err-put.new.self c.put.new.clauses c.put.new.watched.items c.put.new.lists
          (subst (λ (ws : List ℕ). KeepsPropagator c.self.inside.clauses ws c.settle.new.lists c.undo-in-Err-put.new.self) (sym moved)
          (KeepsPropagator-moved c.self.inside.clauses c.self.inside.watched.items c.deref_mut.result.now c.settle.new.watched c.self.inside.lists c.settle.new.lists c.self.inside.trail c.undo-in-Err-put.new.self
          c.self.invariant.0 c.deref_mut.ensures.value c.settle.ensures.watched c.settle.ensures.stays same)) c.in-Err-put.ensures.err,
      AreLinked-same c.self.inside.clauses _ (last_at c.self.inside.places) (last_at c.put.new.places) c.self.inside.places.before.items c.put.new.places.before.items c.self.invariant.1
          c.in-Err-put.ensures.err.clauses_are c.in-Err-put.ensures.last c.in-Err-put.ensures.before,
    )

pub returns-in-Err : goal.returns-in-Err
returns-in-Err c =
    let same : c.undo.new.self ≡ c.self.inside.trail = undone_is c.len-root.result c.self.inside.trail c.settle.new.trail c.undo.new.self c.len-root.ensures.count (extends_of _ _ _ c.settle.ensures.grows) c.undo.ensures.order c.undo.ensures.as_many c.len-root.ensures.marked c.len-root.ensures.placed c.undo.ensures.marked c.undo.ensures.placed in
    ap (state_from c.self.inside.clauses) same ∙ c.self.view_is

pub returns-in-Err-put : goal.returns-in-Err-put
returns-in-Err-put c =
    let same : c.undo-in-Err-put.new.self ≡ c.self.inside.trail = undone_is c.len-root.result c.self.inside.trail c.settle.new.trail c.undo-in-Err-put.new.self c.len-root.ensures.count (extends_of _ _ _ c.settle.ensures.grows) c.undo-in-Err-put.ensures.order c.undo-in-Err-put.ensures.as_many c.len-root.ensures.marked c.len-root.ensures.placed c.undo-in-Err-put.ensures.marked c.undo-in-Err-put.ensures.placed in
    ap (λ (cs : List (List ℕ)). state_from cs c.undo-in-Err-put.new.self) c.in-Err-put.ensures.err.clauses_are ∙ ap (state_from c.self.inside.clauses) same ∙ c.self.view_is

pub returns-in-Ok-None : goal.returns-in-Ok-None
returns-in-Ok-None c =
    let same : c.undo-in-Ok-None.new.self ≡ c.self.inside.trail = undone_is c.len-root.result c.self.inside.trail c.settle.new.trail c.undo-in-Ok-None.new.self c.len-root.ensures.count (extends_of _ _ _ c.settle.ensures.grows) c.undo-in-Ok-None.ensures.order c.undo-in-Ok-None.ensures.as_many c.len-root.ensures.marked c.len-root.ensures.placed c.undo-in-Ok-None.ensures.marked c.undo-in-Ok-None.ensures.placed in
    let answer : Falsifies c.self.inside.clauses c.settle.new.trail ⊎ AllNegated c.args.clause.now (set_of c.settle.new.trail) = (rw c.in-Ok-None.field-0-is at c.in-Ok-None.ensures).answer in (
      ap (state_from c.self.inside.clauses) same ∙ c.self.view_is,
      subst (λ (f : State). MeetsConflict (f.clauses ++ c.args.clause.now ∷ []) (in_list f.followed)) c.self.view_is
          (refuted c.self.inside.clauses c.args.clause.now c.self.inside.trail c.settle.new.trail c.settle.ensures.grows answer),
    )

pub invariant_of-self-in-Ok : goal.invariant_of-self-in-Ok
invariant_of-self-in-Ok c =
    let moved = with_items_is c.self.inside.watched c.settle.new.watched (omega (arith, c.settle.ensures.stays.as_many, ap length c.deref_mut.ensures.value)) in
    let answer : AreMet c.self.inside.clauses c.settle.new.watched c.settle.new.trail × Chosen c.args.clause.now c.in-Ok-Some.first c.in-Ok-Some.second c.settle.new.trail = (rw c.in-Ok-Some.field-0-is at c.in-Ok-Some.ensures).answer in
    let chosen : Chosen c.args.clause.now c.in-Ok-Some.first c.in-Ok-Some.second c.settle.new.trail = answer.1 in
    let grown : KeepsPropagator c.self.inside.clauses (with_items c.self.inside.watched c.settle.new.watched).items c.settle.new.lists c.settle.new.trail = subst (λ (ws : List ℕ). KeepsPropagator c.self.inside.clauses ws c.settle.new.lists c.settle.new.trail) (sym moved)
    (KeepsPropagator-grown c.self.inside.clauses c.self.inside.watched.items c.settle.new.watched c.self.inside.lists c.settle.new.lists c.self.inside.trail c.settle.new.trail _ c.self.invariant.0 c.settle.ensures.watched c.settle.ensures.grows answer.0) in
    let low = subst (λ (f : State). All (λ l. l < f.limit) c.args.clause.now) (sym c.self.view_is) c.requires in
    let low' = subst (λ (n : ℕ). All (λ l. l < n) c.args.clause.now) (sym c.settle.ensures.grows.as_many) low in
    let added = c.in-Ok.ensures.ok in (
      KeepsPropagator-add c.self.inside.clauses _ c.settle.new.lists c.settle.new.trail c.args.clause.now c.in-Ok-Some.first c.in-Ok-Some.second grown low' (can_watch [] c.args.clause.now c.in-Ok-Some.first c.in-Ok-Some.second c.settle.new.trail chosen) c.put.new.clauses c.put.new.watched.items c.put.new.lists c.in-Ok.ensures.ok,
      AreLinked-behind c.self.inside.clauses _ c.args.clause.now _ c.self.inside.places c.put.new.places (omega (arith, chosen.first_in.1)) c.self.invariant.1 refl c.in-Ok.ensures.few c.in-Ok.ensures.linked added.clauses_are,
    )

pub returns-in-Ok : goal.returns-in-Ok
returns-in-Ok c =
    let moved = with_items_is c.self.inside.watched c.settle.new.watched (omega (arith, c.settle.ensures.stays.as_many, ap length c.deref_mut.ensures.value)) in
    let answer : AreMet c.self.inside.clauses c.settle.new.watched c.settle.new.trail × Chosen c.args.clause.now c.in-Ok-Some.first c.in-Ok-Some.second c.settle.new.trail = (rw c.in-Ok-Some.field-0-is at c.in-Ok-Some.ensures).answer in
    let chosen : Chosen c.args.clause.now c.in-Ok-Some.first c.in-Ok-Some.second c.settle.new.trail = answer.1 in
    let grown : KeepsPropagator c.self.inside.clauses (with_items c.self.inside.watched c.settle.new.watched).items c.settle.new.lists c.settle.new.trail = subst (λ (ws : List ℕ). KeepsPropagator c.self.inside.clauses ws c.settle.new.lists c.settle.new.trail) (sym moved)
    (KeepsPropagator-grown c.self.inside.clauses c.self.inside.watched.items c.settle.new.watched c.self.inside.lists c.settle.new.lists c.self.inside.trail c.settle.new.trail _ c.self.invariant.0 c.settle.ensures.watched c.settle.ensures.grows answer.0) in
    let low = subst (λ (f : State). All (λ l. l < f.limit) c.args.clause.now) (sym c.self.view_is) c.requires in
    let low' = subst (λ (n : ℕ). All (λ l. l < n) c.args.clause.now) (sym c.settle.ensures.grows.as_many) low in
    let keeps = KeepsPropagator-add c.self.inside.clauses _ c.settle.new.lists c.settle.new.trail c.args.clause.now c.in-Ok-Some.first c.in-Ok-Some.second grown low' (can_watch [] c.args.clause.now c.in-Ok-Some.first c.in-Ok-Some.second c.settle.new.trail chosen) c.put.new.clauses c.put.new.watched.items c.put.new.lists c.in-Ok.ensures.ok in
    subst (λ (f : State). Extended f c.args.clause.now (state_from c.put.new.clauses c.settle.new.trail)) c.self.view_is
    (extended c.self.inside.clauses c.put.new.clauses c.put.new.watched.items c.put.new.lists c.self.inside.trail c.settle.new.trail c.args.clause.now (omega (arith, chosen.first_in.1)) c.in-Ok.ensures.ok.clauses_are c.settle.ensures.grows keeps)

pub settle-requires-clause-met : goal.settle-requires-clause-met
settle-requires-clause-met c =
    subst (λ (ws : List ℕ). AreMet c.self.inside.clauses ws c.self.inside.trail) (sym c.deref_mut.ensures.value) c.self.invariant.0.are_met
