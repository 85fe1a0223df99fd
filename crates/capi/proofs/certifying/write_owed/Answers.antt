use Rattle.capi.proofs.StopLemmas.{stopped}
use Rattle.capi.proofs.certifying.write_owed.Goals as goal

pub returns-in-Err-clause-stops : goal.returns-in-Err-clause-stops
returns-in-Err-clause-stops c = λ _. stopped c.in-Err.against c.tell.ensures.tells c.in-Err.ensures.refused c.in-Err.ensures.second
