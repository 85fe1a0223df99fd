use Rattle.std.proofs.Common.{ℕ, refl}
use Rattle.verbs.proofs.CountLemmas.{as_was, ends_as, failed, handed_on, judging_failed, unfailed}
use Rattle.verbs.proofs.judging.judge_over_circuit.Goals as goal

pub returns-in_err-claimable-clause-ends : goal.returns-in_err-claimable-clause-ends
returns-in_err-claimable-clause-ends g c =
    let is = failed c.from_residual-in_err-claimable.result c.in_err-claimable.field-0.0 c.from_residual-in_err-claimable.ensures in
    ends_as (unfailed (c.in_ok-circuit.ensures.ends.counted 0 0 0).0) (unfailed refl) as_was as_was (handed_on is c.in_err-claimable.ensures.ends)

pub returns-in-Ok-clause-ends : goal.returns-in-Ok-clause-ends
returns-in-Ok-clause-ends g c =
    record { counted = λ o e. ((c.in_ok-circuit.ensures.ends.counted 0 0 0).0, c.in-Ok.ensures.counted, refl, refl); unwritten = tt; untold = tt }

pub returns-clause-ends : goal.returns-clause-ends
returns-clause-ends g c =
    rw c.from.ensures (record { counted = λ o e. judging_failed ℕ ℕ c.in-Err.fault _ _ _ _ (c.in_ok-circuit.ensures.ends.counted 0 0 0).0 c.in-Err.ensures.counted o e; unwritten = tt; untold = tt })
