use Rattle.verbs.proofs.CountLemmas.{as_is, as_was, ends_as, failed, handed_on, unfailed}
use Rattle.verbs.proofs.given.lower_first.Goals as goal

pub returns-in_err-circuit-clause-ends : goal.returns-in_err-circuit-clause-ends
returns-in_err-circuit-clause-ends g c =
    let is = failed c.from_residual-in_err-circuit.result c.in_err-circuit.field-0.0 c.from_residual-in_err-circuit.ensures in
    ends_as (unfailed (c.in_ok-model.ensures.ends.counted 0 0 0).0) as_is as_was as_was (handed_on is c.in_err-circuit.ensures.ends)
