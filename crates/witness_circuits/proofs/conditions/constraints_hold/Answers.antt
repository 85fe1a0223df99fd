use Rattle.std.proofs.lemmas.Result.{IfOk-weaker}
use Rattle.witness_circuits.proofs.ConditionLemmas.{constraints_read}
use Rattle.witness_circuits.proofs.conditions.constraints_hold.Goals as goal

pub returns-clause-ok : goal.returns-clause-ok
returns-clause-ok g c =
    IfOk-weaker c.all_hold.result _ _ (λ l made. constraints_read c.args.circuit.now _ _ _ c.args.table.now c.constraints.result.now l c.constraints.ensures.items c.requires made) c.all_hold.ensures.ok
