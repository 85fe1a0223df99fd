use Rattle.base.proofs.DivisionLaws.{truncated_up, truncated_down, floored_up, floored_down}
use Rattle.base.proofs.laws.signs_of_remainders.Goals as goal

pub returns-clause-srem_from_0 : goal.returns-clause-srem_from_0
returns-clause-srem_from_0 c = truncated_up

pub returns-clause-srem_below_0 : goal.returns-clause-srem_below_0
returns-clause-srem_below_0 c = truncated_down

pub returns-clause-smod_from_0 : goal.returns-clause-smod_from_0
returns-clause-smod_from_0 c = floored_up

pub returns-clause-smod_below_0 : goal.returns-clause-smod_below_0
returns-clause-smod_below_0 c = floored_down
