use Rattle.std.proofs.Common.{subst, arith}
use Rattle.order.specs.Walk.{IsUnderway}
use Rattle.order.proofs.WalkLemmas.{order_at_end}
use Rattle.order.proofs.ordering.order.Goals as goal

pub returns-clause-ok : goal.returns-clause-ok
returns-clause-ok c =
    let w = c.loop-number.walk in
    let underway = subst (λ stack. IsUnderway c.args.needs.now c.loop-number.walk.progress.items stack c.loop-number.walk.order.items) c.loop-number.invariant.empty c.loop-number.invariant.underway in
    order_at_end c.args.needs.now c.loop-number.walk.progress.items c.loop-number.walk.order.items underway (λ k h. c.loop-number.invariant.passed k (omega arith))
