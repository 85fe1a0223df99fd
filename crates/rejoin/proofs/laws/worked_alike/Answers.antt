use Rattle.rejoin.proofs.WorkedLemmas.{alike, exchanged}
use Rattle.rejoin.proofs.laws.worked_alike.Goals as goal

pub returns-clause-alike : goal.returns-clause-alike
returns-clause-alike c = alike

pub returns-clause-exchanged : goal.returns-clause-exchanged
returns-clause-exchanged c = exchanged
