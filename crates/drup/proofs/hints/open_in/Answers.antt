use Rattle.std.proofs.Common.{ℕ, List, take, sym, ap, subst, ◌∙◌, arith}
use Rattle.std.proofs.lemmas.List.{take_all, take_more}
use Rattle.drup.specs.Marked.{set_of}
use Rattle.drup.specs.Opened.{HasSeen}
use Rattle.drup.proofs.hints.open_in.Goals as goal

pub loop-literal-init : goal.loop-literal-init
loop-literal-init c = c.new-seen.ensures (set_of c.args.trail.now)

pub loop-literal-preserved : goal.loop-literal-preserved
loop-literal-preserved c =
    subst (λ (xs : List ℕ). HasSeen (set_of c.args.trail.now) xs c.with-seen.result) (sym (take_more c.args.clause.now c.loop-literal.literal-index 0 c.loop-literal-test.true))
    (c.with-seen.ensures (set_of c.args.trail.now) (take c.loop-literal.literal-index c.args.clause.now) (ap (set_of c.args.trail.now) (sym c.negation.ensures) ∙ sym c.has.ensures) c.loop-literal.invariant)

pub returns-in-0 : goal.returns-in-0
returns-in-0 c =
    let all : HasSeen (set_of c.args.trail.now) c.args.clause.now c.loop-literal.seen = subst (λ (xs : List ℕ). HasSeen (set_of c.args.trail.now) xs c.loop-literal.seen) (take_all c.loop-literal.literal-index c.args.clause.now (omega (arith, c.loop-literal-test.false))) c.loop-literal.invariant in
    sym (all.left 0 (omega (arith, c.in-0.is, all.few)))

pub returns-in-1 : goal.returns-in-1
returns-in-1 c =
    let all : HasSeen (set_of c.args.trail.now) c.args.clause.now c.loop-literal.seen = subst (λ (xs : List ℕ). HasSeen (set_of c.args.trail.now) xs c.loop-literal.seen) (take_all c.loop-literal.literal-index c.args.clause.now (omega (arith, c.loop-literal-test.false))) c.loop-literal.invariant in
    sym (all.left 1 (omega (arith, c.in-1.is, all.few)))
