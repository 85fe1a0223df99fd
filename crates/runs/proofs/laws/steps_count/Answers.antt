use Rattle.base.proofs.StepLemmas.{more_steps-min}
use Rattle.runs.proofs.laws.steps_count.Goals as goal

pub returns : goal.returns
returns c = more_steps-min
