use Rattle.capi.proofs.StopLemmas.{stopped_first}
use Rattle.capi.proofs.lifting_fitted.hwtool_lift_engine_abc_fit.Goals as goal

pub returns-clause-stops : goal.returns-clause-stops
returns-clause-stops c = λ _. stopped_first c.in-Err.against c.tell.ensures.tells c.in-Err.ensures.refused c.in-Err.ensures.ends
