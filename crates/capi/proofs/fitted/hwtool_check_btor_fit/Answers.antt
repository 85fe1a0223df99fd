use Rattle.capi.proofs.StopLemmas.{stopped_first}
use Rattle.capi.proofs.fitted.hwtool_check_btor_fit.Goals as goal

pub returns-in-Err-clause-stops : goal.returns-in-Err-clause-stops
returns-in-Err-clause-stops c = λ _. stopped_first c.in-Err.against c.tell.ensures.tells c.in-Err.ensures.refused c.in-Err.ensures.ends
