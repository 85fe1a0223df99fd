use Rattle.std.proofs.Common.{◌<◌, ℕ, Bool, inl, inr, length, sym, subst}
use Rattle.drup.specs.Growth.{GrowsBy}
use Rattle.drup.specs.Watched.{Processed, Propagated}
use Rattle.drup.proofs.PassLemmas.{takes_literal, contained_inside, Grows-more}
use Rattle.drup.proofs.WalkLemmas.{Processed-root, Stays-begin, Stays-more}
use Rattle.drup.proofs.AddLemmas.{Grows-last, Grows-wider}
use Rattle.drup.proofs.propagator.settle.Goals as goal

pub propagate-requires-clause-begun : goal.propagate-requires-clause-begun
propagate-requires-clause-begun c =
    let inside : c.in-Some.first < length c.args.trail.now.marks = contained_inside _ _ c.in-Some.first c.requires.below c.in-Some.ensures.0 in
    let pushed : GrowsBy c.args.clause.now c.args.trail.now c.push.new.self = (takes_literal c.args.clause.now c.args.trail.now c.push.new.self c.in-Some.first c.push.ensures c.requires.consistent c.in-Some.ensures c.in-None-open_other.ensures inside) in
    subst (λ (n : ℕ). Processed c.args.clauses.now c.args.watched.now c.push.new.self n) (sym c.len-root.ensures.count)
    (Processed-root c.args.clauses.now c.args.watched.now c.args.trail.now c.push.new.self c.requires.met c.len-root.ensures.marked pushed.kept pushed.prefix)

pub returns-in-None-clause-answer : goal.returns-in-None-clause-answer
returns-in-None-clause-answer c = inr c.in-None.ensures

pub returns-in-Ok-true-clause-answer : goal.returns-in-Ok-true-clause-answer
returns-in-Ok-true-clause-answer c =
    let answer = subst (λ (b : Bool). Propagated c.args.clauses.now c.propagate.new.watched c.propagate.new.trail b) c.in-Ok-true.field-0-test c.in-Ok-true.ensures.answer in
    inl answer

pub returns-in-Err-clause-grows : goal.returns-in-Err-clause-grows
returns-in-Err-clause-grows c =
    let inside : c.in-Some.first < length c.args.trail.now.marks = contained_inside _ _ c.in-Some.first c.requires.below c.in-Some.ensures.0 in
    let pushed : GrowsBy c.args.clause.now c.args.trail.now c.push.new.self = (takes_literal c.args.clause.now c.args.trail.now c.push.new.self c.in-Some.first c.push.ensures c.requires.consistent c.in-Some.ensures c.in-None-open_other.ensures inside) in
    Grows-more _ c.args.trail.now c.push.new.self c.propagate.new.trail (Grows-last c.args.clauses.now c.args.clause.now c.args.trail.now c.push.new.self pushed)
    (Grows-wider c.args.clauses.now c.args.clause.now c.push.new.self c.propagate.new.trail c.propagate.ensures.grows)

pub returns-in-Err-clause-stays : goal.returns-in-Err-clause-stays
returns-in-Err-clause-stays c =
    let inside : c.in-Some.first < length c.args.trail.now.marks = contained_inside _ _ c.in-Some.first c.requires.below c.in-Some.ensures.0 in
    let pushed : GrowsBy c.args.clause.now c.args.trail.now c.push.new.self = (takes_literal c.args.clause.now c.args.trail.now c.push.new.self c.in-Some.first c.push.ensures c.requires.consistent c.in-Some.ensures c.in-None-open_other.ensures inside) in
    Stays-more c.args.watched.now c.args.watched.now c.propagate.new.watched c.args.trail.now c.push.new.self (Stays-begin c.args.watched.now c.args.trail.now) c.propagate.ensures.stays pushed.kept

pub returns-in-Ok-true-clause-grows : goal.returns-in-Ok-true-clause-grows
returns-in-Ok-true-clause-grows c =
    let inside : c.in-Some.first < length c.args.trail.now.marks = contained_inside _ _ c.in-Some.first c.requires.below c.in-Some.ensures.0 in
    let pushed : GrowsBy c.args.clause.now c.args.trail.now c.push.new.self = (takes_literal c.args.clause.now c.args.trail.now c.push.new.self c.in-Some.first c.push.ensures c.requires.consistent c.in-Some.ensures c.in-None-open_other.ensures inside) in
    Grows-more _ c.args.trail.now c.push.new.self c.propagate.new.trail (Grows-last c.args.clauses.now c.args.clause.now c.args.trail.now c.push.new.self pushed)
    (Grows-wider c.args.clauses.now c.args.clause.now c.push.new.self c.propagate.new.trail c.propagate.ensures.grows)

pub returns-in-Ok-true-clause-stays : goal.returns-in-Ok-true-clause-stays
returns-in-Ok-true-clause-stays c =
    let inside : c.in-Some.first < length c.args.trail.now.marks = contained_inside _ _ c.in-Some.first c.requires.below c.in-Some.ensures.0 in
    let pushed : GrowsBy c.args.clause.now c.args.trail.now c.push.new.self = (takes_literal c.args.clause.now c.args.trail.now c.push.new.self c.in-Some.first c.push.ensures c.requires.consistent c.in-Some.ensures c.in-None-open_other.ensures inside) in
    Stays-more c.args.watched.now c.args.watched.now c.propagate.new.watched c.args.trail.now c.push.new.self (Stays-begin c.args.watched.now c.args.trail.now) c.propagate.ensures.stays pushed.kept

pub returns-in-Ok-false-clause-grows : goal.returns-in-Ok-false-clause-grows
returns-in-Ok-false-clause-grows c =
    let inside : c.in-Some.first < length c.args.trail.now.marks = contained_inside _ _ c.in-Some.first c.requires.below c.in-Some.ensures.0 in
    let pushed : GrowsBy c.args.clause.now c.args.trail.now c.push.new.self = (takes_literal c.args.clause.now c.args.trail.now c.push.new.self c.in-Some.first c.push.ensures c.requires.consistent c.in-Some.ensures c.in-None-open_other.ensures inside) in
    Grows-more _ c.args.trail.now c.push.new.self c.propagate.new.trail (Grows-last c.args.clauses.now c.args.clause.now c.args.trail.now c.push.new.self pushed)
    (Grows-wider c.args.clauses.now c.args.clause.now c.push.new.self c.propagate.new.trail c.propagate.ensures.grows)

pub returns-in-Ok-false-clause-stays : goal.returns-in-Ok-false-clause-stays
returns-in-Ok-false-clause-stays c =
    let inside : c.in-Some.first < length c.args.trail.now.marks = contained_inside _ _ c.in-Some.first c.requires.below c.in-Some.ensures.0 in
    let pushed : GrowsBy c.args.clause.now c.args.trail.now c.push.new.self = (takes_literal c.args.clause.now c.args.trail.now c.push.new.self c.in-Some.first c.push.ensures c.requires.consistent c.in-Some.ensures c.in-None-open_other.ensures inside) in
    Stays-more c.args.watched.now c.args.watched.now c.propagate.new.watched c.args.trail.now c.push.new.self (Stays-begin c.args.watched.now c.args.trail.now) c.propagate.ensures.stays pushed.kept
