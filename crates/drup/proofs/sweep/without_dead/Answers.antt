use Rattle.std.proofs.Common.{◌≡◌, ◌<◌, ◌+◌, ◌*◌, ℕ, List, [], ◌∷◌, ◌++◌, length, get_or, take, sym, ap, subst, ◌∙◌, arith}
use Rattle.std.proofs.lemmas.List.{take_all}
use Rattle.std.specs.Prelude.{All}
use Rattle.drup.specs.Flat.{standing}
use Rattle.drup.specs.Swept.{IsSweptOf}
use Rattle.drup.specs.Watched.{CanWatch}
use Rattle.drup.proofs.SweepLemmas.{can_watch_still, watch_below, standing-more}
use Rattle.drup.proofs.sweep.without_dead.Goals as goal

pub loop-k-init : goal.loop-k-init
loop-k-init c = c.in_ok-swept.ensures c.args.clauses.now c.args.lists.now c.args.watched.now c.args.trail.now c.requires (c.limit.ensures ∙ c.requires.are_watched.many_lists)

pub bounds-watched-k : goal.bounds-watched-k
bounds-watched-k c = omega (arith, c.loop-k-test.true, c.requires.are_watched.two_each, c.len-k-end.ensures)

pub bounds-watched-k-in-loop-k : goal.bounds-watched-k-in-loop-k
bounds-watched-k-in-loop-k c = omega (arith, c.loop-k-test.true, c.requires.are_watched.two_each, c.len-k-end.ensures)

pub take-requires-clause-first : goal.take-requires-clause-first
take-requires-clause-first c some =
    omega (arith, c.loop-k.invariant.keeps.are_watched.many_lists, watch_below c.args.clauses.now c.args.watched.now c.args.lists.now (length c.args.trail.now.marks) c.loop-k.k (2 * c.loop-k.k) c.requires.are_watched (omega (arith, c.len-k-end.ensures, c.loop-k-test.true)) (omega (arith, some, ap length c.clause.ensures)) (omega arith))

pub take-requires-clause-second : goal.take-requires-clause-second
take-requires-clause-second c some =
    omega (arith, c.loop-k.invariant.keeps.are_watched.many_lists, watch_below c.args.clauses.now c.args.watched.now c.args.lists.now (length c.args.trail.now.marks) c.loop-k.k (2 * c.loop-k.k + 1) c.requires.are_watched (omega (arith, c.len-k-end.ensures, c.loop-k-test.true)) (omega (arith, some, ap length c.clause.ensures)) (omega arith))

pub loop-k-preserved : goal.loop-k-preserved
loop-k-preserved c =
    let clauses = c.args.clauses.now in
    let below : c.loop-k.k < length clauses = omega (arith, c.len-k-end.ensures, c.loop-k-test.true) in
    let at : c.clause.result.now ≡ get_or clauses c.loop-k.k [] = c.clause.ensures in
    let can : 0 < length c.clause.result.now → CanWatch c.clause.result.now (get_or c.args.watched.now (2 * c.loop-k.k) 0) (get_or c.args.watched.now (2 * c.loop-k.k + 1) 0) c.args.trail.now =
    λ some. subst (λ (x : List ℕ). CanWatch x (get_or c.args.watched.now (2 * c.loop-k.k) 0) (get_or c.args.watched.now (2 * c.loop-k.k + 1) 0) c.args.trail.now) (sym at)
    (can_watch_still clauses c.args.watched.now c.args.lists.now (length c.args.trail.now.marks) c.args.trail.now c.loop-k.k c.requires.are_watched c.requires.are_met c.requires.units_met below (omega (arith, some, ap length at))) in
    let low : All (λ l. l < length c.args.trail.now.marks) c.clause.result.now = subst (All (λ l. l < length c.args.trail.now.marks)) (sym at) (c.requires.inside c.loop-k.k [] below) in
    subst (λ (cs : List (List ℕ)). IsSweptOf c.take.new.self cs c.args.trail.now) (ap (λ (x : List ℕ). standing (take c.loop-k.k clauses) ++ standing (x ∷ [])) at ∙ standing-more clauses c.loop-k.k below)
    (c.in_ok-take.ensures (standing (take c.loop-k.k clauses)) c.args.trail.now c.loop-k.invariant can low)

pub returns : goal.returns
returns c =
    subst (λ (cs : List (List ℕ)). IsSweptOf c.loop-k.swept (standing cs) c.args.trail.now) (take_all c.loop-k.k c.args.clauses.now (omega (arith, c.loop-k-test.false, c.len-k-end.ensures))) c.loop-k.invariant
