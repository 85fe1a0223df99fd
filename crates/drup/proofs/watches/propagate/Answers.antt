use Rattle.std.proofs.Common.{ℕ, Bool, subst, ap, ◌∙◌, arith}
use Rattle.base.specs.Literal.{negation}
use Rattle.drup.specs.Watched.{IsWatched, WalkedTo}
use Rattle.drup.proofs.PassLemmas.{Grows-more}
use Rattle.drup.proofs.WalkLemmas.{Propagating-more, Propagating-end, Stays-more}
use Rattle.drup.proofs.watches.propagate.Goals as goal

pub returns-in-Err-clause-grows : goal.returns-in-Err-clause-grows
returns-in-Err-clause-grows c = Grows-more _ _ _ _ c.loop-head.invariant.grows c.in-Err.ensures.grows

pub returns-in-Ok-true-clause-grows : goal.returns-in-Ok-true-clause-grows
returns-in-Ok-true-clause-grows c = Grows-more _ _ _ _ c.loop-head.invariant.grows c.walk.ensures.grows

pub loop-head-preserved : goal.loop-head-preserved
loop-head-preserved c =
    let many = c.loop-head.invariant.grows.as_many in
    let w = subst (λ (n : ℕ). IsWatched c.args.clauses.now c.walk.new.watched c.walk.new.lists n) many c.walk.ensures.watched in
    let answer = subst (λ (b : Bool). WalkedTo c.args.clauses.now c.negation-negated.result c.loop-head.watched c.loop-head.trail c.walk.new.watched c.walk.new.trail b) c.in-Ok-false.field-0-test c.in-Ok-false.ensures.answer in
    Propagating-more _ _ _ _ _ _ _ _ _ c.negation-negated.result _ _ _ c.loop-head.invariant (omega (arith, c.loop-head-test.true, c.len.ensures.count)) (c.negation-negated.ensures ∙ ap negation c.at.ensures.there) w c.walk.ensures.grows answer c.walk.ensures.stays

pub returns-in-Err-clause-stays : goal.returns-in-Err-clause-stays
returns-in-Err-clause-stays c = Stays-more c.args.watched.now c.loop-head.watched c.walk.new.watched c.args.trail.now c.loop-head.trail c.loop-head.invariant.stays c.walk.ensures.stays c.loop-head.invariant.grows.kept

pub returns-in-Ok-true-clause-stays : goal.returns-in-Ok-true-clause-stays
returns-in-Ok-true-clause-stays c = Stays-more c.args.watched.now c.loop-head.watched c.walk.new.watched c.args.trail.now c.loop-head.trail c.loop-head.invariant.stays c.walk.ensures.stays c.loop-head.invariant.grows.kept

pub returns-clause-answer : goal.returns-clause-answer
returns-clause-answer c = Propagating-end _ _ _ _ _ _ _ _ _ c.loop-head.invariant (omega (arith, c.loop-head-test.false, c.len.ensures.count)) c.len.ensures.placed
