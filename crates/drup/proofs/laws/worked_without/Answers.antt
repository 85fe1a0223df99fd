use Rattle.drup.proofs.WorkedJudgements.{without-last, without-none}
use Rattle.drup.proofs.laws.worked_without.Goals as goal

pub returns-clause-last : goal.returns-clause-last
returns-clause-last c = without-last

pub returns-clause-none : goal.returns-clause-none
returns-clause-none c = without-none
