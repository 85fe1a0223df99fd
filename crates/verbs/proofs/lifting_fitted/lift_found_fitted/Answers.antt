use Rattle.std.proofs.Common.{refl}
use Rattle.invocation.specs.declared.tasks.Given.TheVariants as given
use Rattle.verbs.specs.declared.refusals.Claimed.TheVariants as claimed
use Rattle.verbs.proofs.CountLemmas.{as_is, as_was, ends_as, handed_on, idle, unfailed}
use Rattle.verbs.proofs.GivenLemmas.{none_claimed}
use Rattle.verbs.proofs.lifting_fitted.lift_found_fitted.Goals as goal

pub lift_found_lowered-requires : goal.lift_found_lowered-requires
lift_found_lowered-requires g c = record { lowered = ((g.A.Source.to_come c.args.first.now), c.in-Ok.ensures.lowered) }

pub returns-in-Ok-clause-lifted : goal.returns-in-Ok-clause-lifted
returns-in-Ok-clause-lifted g c = c.lift_found_lowered.ensures.lifted (g.A.Source.to_come c.args.first.now) c.in-Ok.ensures.lowered

pub returns-in-Ok-clause-refused : goal.returns-in-Ok-clause-refused
returns-in-Ok-clause-refused g c = c.lift_found_lowered.ensures.refused (g.A.Source.to_come c.args.first.now) c.in-Ok.ensures.lowered

pub returns-in-Ok-clause-ends : goal.returns-in-Ok-clause-ends
returns-in-Ok-clause-ends g c = ends_as (unfailed (c.in-Ok.ensures.ends.counted 0 0 0).0) as_is as_was as_was c.lift_found_lowered.ensures.ends

pub returns-in-Err-clause-refused : goal.returns-in-Err-clause-refused
returns-in-Err-clause-refused g c = none_claimed claimed.Found given.Fitted c.args.choice (g.A.Source.to_come c.args.first.now) c.in-Err.refusal c.in-Err.ensures.refused

pub returns-in-Err-clause-ends : goal.returns-in-Err-clause-ends
returns-in-Err-clause-ends g c = ends_as as_is (unfailed refl) idle as_was (handed_on refl c.in-Err.ensures.ends)
