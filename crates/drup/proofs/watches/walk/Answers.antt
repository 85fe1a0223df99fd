use Rattle.std.proofs.Common.{◌<◌, ℕ, List, length, get_or, subst, arith}
use Rattle.drup.specs.Watched.{IsWatched, IsPassed, ArePassed}
use Rattle.drup.proofs.PassLemmas.{Grows-more}
use Rattle.drup.proofs.WalkLemmas.{Walking-begin, Walking-more, Walking-pass, Walking-end, Stays-more}
use Rattle.drup.proofs.watches.walk.Goals as goal

pub loop-place-init : goal.loop-place-init
loop-place-init c =
    let passed = subst (λ (list : List ℕ). ArePassed list c.args.watched.now 0 c.next_place-place.result c.args.trail.now) c.list.ensures c.next_place-place.ensures.passed in
    let stop = subst (λ (list : List ℕ). c.next_place-place.result < length list → IsPassed c.args.watched.now (get_or list c.next_place-place.result 0) c.args.trail.now → ⊥) c.list.ensures c.next_place-place.ensures.stop in (
      Walking-pass _ _ _ _ _ c.args.watched.now c.args.lists.now c.args.trail.now 0 _ (Walking-begin _ _ _ _ _ _ c.requires.watched c.requires.consistent c.requires.negated) c.requires.negated passed,
      stop,
    )

pub returns-in-Err-clause-grows : goal.returns-in-Err-clause-grows
returns-in-Err-clause-grows c = Grows-more _ _ _ _ c.loop-place.invariant.0.grows c.in-Err.ensures.grows

pub returns-in-Ok-None-clause-grows : goal.returns-in-Ok-None-clause-grows
returns-in-Ok-None-clause-grows c = Grows-more _ _ _ _ c.loop-place.invariant.0.grows c.enter.ensures.grows

pub loop-place-preserved : goal.loop-place-preserved
loop-place-preserved c =
    let many = c.loop-place.invariant.0.grows.as_many in
    let w = subst (λ (n : ℕ). IsWatched c.args.clauses.now c.enter.new.watched c.enter.new.lists n) many c.enter.ensures.watched in
    let e = rw c.in-Ok-Some.field-0-is at c.in-Ok-Some.ensures in
    let passed = subst (λ (list : List ℕ). ArePassed list c.enter.new.watched c.in-Ok-Some.next c.next_place-place-in-Ok-Some.result c.enter.new.trail) c.list-in-Ok-Some.ensures c.next_place-place-in-Ok-Some.ensures.passed in
    let stop = subst (λ (list : List ℕ). c.next_place-place-in-Ok-Some.result < length list → IsPassed c.enter.new.watched (get_or list c.next_place-place-in-Ok-Some.result 0) c.enter.new.trail → ⊥) c.list-in-Ok-Some.ensures c.next_place-place-in-Ok-Some.ensures.stop in (
      Walking-pass _ _ _ _ _ c.enter.new.watched c.enter.new.lists c.enter.new.trail c.in-Ok-Some.next _ (Walking-more _ _ _ _ _ _ _ _ _ _ _ _ _ c.loop-place.invariant.0 w c.enter.ensures.grows e.answer c.enter.ensures.stays) c.requires.negated passed,
      stop,
    )

pub returns-clause-answer : goal.returns-clause-answer
returns-clause-answer c = Walking-end _ _ _ _ _ _ _ _ _ c.loop-place.invariant.0 (omega (arith, c.loop-place-test.false, c.len_of.ensures))

pub returns-in-Err-clause-stays : goal.returns-in-Err-clause-stays
returns-in-Err-clause-stays c = Stays-more c.args.watched.now c.loop-place.watched c.enter.new.watched c.args.trail.now c.loop-place.trail c.loop-place.invariant.0.stays c.enter.ensures.stays c.loop-place.invariant.0.grows.kept

pub returns-in-Ok-None-clause-stays : goal.returns-in-Ok-None-clause-stays
returns-in-Ok-None-clause-stays c = Stays-more c.args.watched.now c.loop-place.watched c.enter.new.watched c.args.trail.now c.loop-place.trail c.loop-place.invariant.0.stays c.enter.ensures.stays c.loop-place.invariant.0.grows.kept
