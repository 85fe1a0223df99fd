use Rattle.std.proofs.Common.{[], set, subst, arith, refl}
use Rattle.drup.specs.Flat.{standing}
use Rattle.drup.specs.Propagator.{State}
use Rattle.drup.specs.Without.{IsWithout}
use Rattle.drup.proofs.AlikeLemmas.{taken, none_taken, none_without_literals, no_length}
use Rattle.drup.proofs.PlacesLemmas.{AreLinked-without, link_within, link_last}
use Rattle.drup.proofs.TakenLemmas.{KeepsPropagator-delete}
use Rattle.drup.proofs.propagator.Propagator.take_away.Goals as goal

pub invariant_of-self : goal.invariant_of-self
invariant_of-self c =
    rw c.take_away.ensures (
      KeepsPropagator-delete c.self.inside.clauses c.self.inside.watched.items c.self.inside.lists c.self.inside.trail c.in-Some.place c.self.invariant.0,
      AreLinked-without c.self.inside.clauses _ c.in-Some.place c.rising_sum-sum.result c.len-count.result c.in-Some.behind c.self.inside.places c.unlink.new.self c.self.invariant.1 c.in-Some.ensures.1 c.in-Some.ensures.2 c.in-Some.ensures.0.inside c.len-count.ensures c.unlink.ensures refl,
    )

pub returns-in-None-clause-left : goal.returns-in-None-clause-left
returns-in-None-clause-left c = subst (λ (f : State). IsWithout f.clauses c.args.clause.now f.clauses) c.self.view_is (none_taken c.self.inside.clauses c.args.clause.now c.in-None.ensures)

pub returns-in-Some-clause-left : goal.returns-in-Some-clause-left
returns-in-Some-clause-left c =
    rw c.take_away.ensures
    (subst (λ (f : State). IsWithout f.clauses c.args.clause.now (standing (set c.self.inside.clauses c.in-Some.place []))) c.self.view_is
    (taken c.self.inside.clauses c.args.clause.now c.in-Some.place c.in-Some.ensures.0))

pub returns-then-is_empty-clause-left : goal.returns-then-is_empty-clause-left
returns-then-is_empty-clause-left c =
    subst (λ (f : State). IsWithout f.clauses c.args.clause.now f.clauses) c.self.view_is
    (none_without_literals c.self.inside.clauses c.args.clause.now (no_length c.args.clause.now c.if-is_empty.ensures))

pub unlink-requires-clause-others : goal.unlink-requires-clause-others
unlink-requires-clause-others c = omega (arith, c.self.invariant.1.as_many, c.len-count.ensures)

pub unlink-requires-clause-behind : goal.unlink-requires-clause-behind
unlink-requires-clause-behind c = omega (arith, link_within _ _ _ _ _ _ c.in-Some.ensures.1, c.len-count.ensures)

pub unlink-requires-clause-there : goal.unlink-requires-clause-there
unlink-requires-clause-there c at = link_last _ _ _ _ _ _ c.in-Some.ensures.1 (omega (arith, at, c.len-count.ensures))
