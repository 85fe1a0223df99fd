use Rattle.std.proofs.lemmas.Result.{IfOk-weaker}
use Rattle.witness_circuits.proofs.ConditionLemmas.{both_begin_made}
use Rattle.witness_circuits.proofs.conditions.both_begin.Goals as goal

pub returns-clause-ok : goal.returns-clause-ok
returns-clause-ok g c =
    IfOk-weaker c.initial-2.result _ _
    (λ l made.
    both_begin_made c.args.circuit.now c.args.witness.now _ _ _ c.args.shared.now.latches.items c.deref.result.now c.latches.result.now c.latches-2.result.now c.args.latches.now c.args.own_latches.now
    c.in_ok-begun.begun l c.latches.ensures.items c.latches-2.ensures.items c.deref.ensures.value c.in_ok-begun.ensures.ok made)
    c.initial-2.ensures.ok
