use Rattle.drup.proofs.StepJudgeLemmas.{stands_begun}
use Rattle.drup.proofs.laws.begun_judge_stands.Goals as goal

pub returns : goal.returns
returns c = stands_begun
