use Rattle.std.proofs.Common.{ℕ, Bool, length, refl, sym, subst}
use Rattle.drup.specs.Flat.{standing}
use Rattle.drup.specs.Growth.{Assumed}
use Rattle.drup.specs.Watched.{IsWatched, Processed}
use Rattle.drup.proofs.ConflictLemmas.{implied_by_contradiction}
use Rattle.drup.proofs.WalkLemmas.{Processed-root, exact_answer, Stays-begin, Stays-more}
use Rattle.drup.proofs.propagator.meets_conflict.Goals as goal

pub returns-then-assume-clause-exact : goal.returns-then-assume-clause-exact
returns-then-assume-clause-exact c =
    let assumed = subst (λ (b : Bool). Assumed c.args.clause.now c.args.trail.now c.assume.new.trail b) c.if-assume.true c.assume.ensures in
    (λ _. implied_by_contradiction (standing c.args.clauses.now) c.args.clause.now c.args.trail.now assumed.0, λ _. refl)

pub propagate-requires-clause-begun : goal.propagate-requires-clause-begun
propagate-requires-clause-begun c =
    let assumed = subst (λ (b : Bool). Assumed c.args.clause.now c.args.trail.now c.assume.new.trail b) c.if-assume.false c.assume.ensures in
    subst (λ (n : ℕ). Processed c.args.clauses.now c.args.watched.now c.assume.new.trail n) (sym c.len-root.ensures.count)
    (Processed-root c.args.clauses.now c.args.watched.now c.args.trail.now c.assume.new.trail c.requires.met c.len-root.ensures.marked assumed.kept assumed.prefix)

pub returns-clause-exact : goal.returns-clause-exact
returns-clause-exact c =
    let assumed = subst (λ (b : Bool). Assumed c.args.clause.now c.args.trail.now c.assume.new.trail b) c.if-assume.false c.assume.ensures in
    let w = subst (λ (n : ℕ). IsWatched c.args.clauses.now c.propagate.new.watched c.propagate.new.lists n) assumed.as_many c.propagate.ensures.watched in
    exact_answer c.args.clauses.now c.args.clause.now c.propagate.new.watched c.propagate.new.lists (length c.args.trail.now.marks) c.args.trail.now c.assume.new.trail c.propagate.new.trail c.requires.units assumed w c.propagate.ensures.grows c.propagate.result c.propagate.ensures.answer

pub returns-clause-stays : goal.returns-clause-stays
returns-clause-stays c =
    let assumed = subst (λ (b : Bool). Assumed c.args.clause.now c.args.trail.now c.assume.new.trail b) c.if-assume.false c.assume.ensures in
    Stays-more c.args.watched.now c.args.watched.now c.propagate.new.watched c.args.trail.now c.assume.new.trail (Stays-begin c.args.watched.now c.args.trail.now) c.propagate.ensures.stays assumed.kept
