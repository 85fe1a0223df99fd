use Rattle.std.proofs.Common.{refl}
use Rattle.subcommands.proofs.judgements.answer_told.Goals as goal

pub returns-in-Ok-clause-ends : goal.returns-in-Ok-clause-ends
returns-in-Ok-clause-ends g c = record { counted = λ f s. (refl, refl, (c.in_ok-answer.ensures.ends.counted 0 0 0).2, c.in-Ok.ensures.counted); no_input = tt; untold = tt }

pub returns-in-Err-clause-ends : goal.returns-in-Err-clause-ends
returns-in-Err-clause-ends g c = record { counted = λ f s. (refl, refl, (c.in_ok-answer.ensures.ends.counted 0 0 0).2, c.in-Err.ensures.counted); no_input = tt; untold = tt }
