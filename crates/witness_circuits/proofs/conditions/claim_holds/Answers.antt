use Rattle.std.proofs.lemmas.Result.{IfOk-weaker}
use Rattle.witness_circuits.proofs.ConditionLemmas.{claim_read}
use Rattle.witness_circuits.proofs.conditions.claim_holds.Goals as goal

pub returns-clause-ok : goal.returns-clause-ok
returns-clause-ok g c =
    IfOk-weaker c.and.result _ _
    (λ l made. claim_read c.args.witness.now _ _ _ _ c.args.table.now c.in_ok-met.met c.property.result c.not.result l c.requires.some c.requires.stand c.property.ensures c.not.ensures c.in_ok-met.ensures.ok made)
    c.and.ensures.ok
