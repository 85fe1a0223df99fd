use Rattle.std.proofs.Common.{refl}
use Rattle.verbs.proofs.CountLemmas.{handed_on}
use Rattle.verbs.proofs.lifting_fitted.unfit_held.Goals as goal

pub returns-in-Ok-clause-unfits : goal.returns-in-Ok-clause-unfits
returns-in-Ok-clause-unfits g c = record { unfitted = c.in-Ok.unfitted; unfits = c.in-Ok.ensures.unfitted; verdict = c.told_of.ensures }

pub returns-in-Ok-clause-ends : goal.returns-in-Ok-clause-ends
returns-in-Ok-clause-ends g c = record { counted = λ f s e. (refl, refl, (c.in-Ok.ensures.ends.counted f s e).2, refl); unwritten = tt; untold = tt }

pub returns-in-Err-clause-ends : goal.returns-in-Err-clause-ends
returns-in-Err-clause-ends g c = handed_on refl c.in-Err.ensures.ends
