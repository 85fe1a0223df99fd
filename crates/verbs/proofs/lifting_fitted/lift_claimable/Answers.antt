use Rattle.std.proofs.Common.{refl}
use Rattle.verbs.proofs.CountLemmas.{as_is, as_was, ends_as, failed, handed_on, idle, unfailed}
use Rattle.verbs.proofs.FitLemmas.{never_told}
use Rattle.verbs.proofs.lifting_fitted.lift_claimable.Goals as goal

pub returns-in_err-claimable-clause-ends : goal.returns-in_err-claimable-clause-ends
returns-in_err-claimable-clause-ends g c =
    let is = failed c.from_residual.result c.in_err-claimable.field-0.0 c.from_residual.ensures in
    ends_as as_is (unfailed refl) idle as_was (handed_on is c.in_err-claimable.ensures.ends)

pub returns-clause-refused : goal.returns-clause-refused
returns-clause-refused g c = never_told c.lift_over.result _ c.lift_over.ensures.refused
