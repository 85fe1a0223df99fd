use Rattle.std.proofs.Common.{false}
use Rattle.drup.proofs.StepJudgeLemmas.{begins_empty}
use Rattle.drup.proofs.step_judge.StepJudge.new.Goals as goal

pub returns-clause-begins : goal.returns-clause-begins
returns-clause-begins c = begins_empty c.args.variables c.in_ok-propagator.propagator false c.in_ok-propagator.ensures.1 c.in_ok-propagator.ensures.2
