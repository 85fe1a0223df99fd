use Rattle.std.proofs.Common.{arith}
use Rattle.std.proofs.lemmas.Result.{IfOk-weaker, IfErr-weaker}
use Rattle.gates.proofs.LiteralLemmas.{Refuses-behind}
use Rattle.witness_circuits.proofs.ConditionLemmas.{fails_made, six_grown}
use Rattle.witness_circuits.proofs.conditions.fails.Goals as goal

pub returns-clause-ok : goal.returns-clause-ok
returns-clause-ok g c =
    let p = c.args.parts in
    IfOk-weaker c.and-5.result _ _
    (λ l made.
    fails_made _ _ _ _ _ _ _ _ p.met p.begin p.holds p.next_met p.next_holds p.bad c.not.result c.not-2.result c.in_ok-begins_not.begins_not c.in_ok-next_not.next_not c.in_ok-goes_on_not.goes_on_not
    c.in_ok-excludes_not.excludes_not c.in_ok-later.later c.in_ok-any.any l c.not.ensures c.not-2.ensures c.in_ok-begins_not.ensures.ok c.in_ok-next_not.ensures.ok c.in_ok-goes_on_not.ensures.ok
    c.in_ok-excludes_not.ensures.ok c.in_ok-later.ensures.ok c.in_ok-any.ensures.ok made)
    c.and-5.ensures.ok

pub returns-clause-refused : goal.returns-clause-refused
returns-clause-refused g c =
    let before =
    six_grown _ _ _ _ _ _ _ c.in_ok-begins_not.ensures.ok.grows c.in_ok-next_not.ensures.ok.grows c.in_ok-goes_on_not.ensures.ok.grows c.in_ok-excludes_not.ensures.ok.grows c.in_ok-later.ensures.ok.grows
    c.in_ok-any.ensures.ok.grows in
    IfErr-weaker c.and-5.result _ _ (λ e refused. Refuses-behind _ _ _ 6 1 7 e (omega arith) before refused) c.and-5.ensures.refused
