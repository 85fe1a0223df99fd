use Rattle.std.proofs.Common.{refl, ◌∙◌}
use Rattle.verbs.proofs.CountLemmas.{risen}
use Rattle.subcommands.proofs.assumed.tell_form_judgement.Goals as goal

pub returns-in-Ok-clause-ends : goal.returns-in-Ok-clause-ends
returns-in-Ok-clause-ends g c = record { counted = λ f s o. (refl, refl, refl, c.in-Ok.ensures.counted ∙ (c.in_ok-answer.ensures.ends.counted 0 0 0).3); no_input = tt; untold = tt }

pub returns-in-Err-clause-ends : goal.returns-in-Err-clause-ends
returns-in-Err-clause-ends g c = record { counted = λ f s o. (refl, refl, refl, risen _ _ _ (c.in_ok-answer.ensures.ends.counted 0 0 0).3 c.in-Err.ensures.counted); no_input = tt; untold = tt }
