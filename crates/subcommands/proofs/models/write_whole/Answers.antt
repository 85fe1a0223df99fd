use Rattle.std.proofs.Common.{refl, ◌∙◌}
use Rattle.subcommands.proofs.models.write_whole.Goals as goal

pub returns-clause-ends : goal.returns-clause-ends
returns-clause-ends g c = record { counted = λ f s e. (refl, refl, (c.in_ok-write_result.ensures.ends.counted 0 0 0).2 ∙ c.in-Ok.ensures.failures, refl); no_input = tt; untold = tt }
