use Rattle.std.proofs.Common.{refl}
use Rattle.verbs.proofs.CountLemmas.{all_handed_on, as_is, as_was, ends_all_as, failed, unfailed}
use Rattle.verbs.proofs.owing.judged.Goals as goal

pub returns-in_err-formula-clause-ends : goal.returns-in_err-formula-clause-ends
returns-in_err-formula-clause-ends g c =
    let is = failed c.from_residual.result c.in_err-formula.field-0.0 c.from_residual.ensures in
    ends_all_as as_is as_is (unfailed refl) as_was as_was (all_handed_on is c.in_err-formula.ensures.ends)

pub returns-clause-ends : goal.returns-clause-ends
returns-clause-ends g c = ends_all_as as_is (unfailed (c.in_ok-formula.ensures.ends.counted 0 0 0 0).0.1) as_is as_was as_was c.proved.ensures.ends
