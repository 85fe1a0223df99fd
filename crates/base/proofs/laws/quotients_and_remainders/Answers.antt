use Rattle.base.proofs.DivisionLaws.{truncated_whole, truncated_below, floored_whole, floored_below}
use Rattle.base.proofs.OverflowLaws.{sdiv_stands}
use Rattle.base.proofs.laws.quotients_and_remainders.Goals as goal

pub returns-clause-truncated_whole : goal.returns-clause-truncated_whole
returns-clause-truncated_whole c = truncated_whole

pub returns-clause-truncated_below : goal.returns-clause-truncated_below
returns-clause-truncated_below c = truncated_below

pub returns-clause-floored_whole : goal.returns-clause-floored_whole
returns-clause-floored_whole c = floored_whole

pub returns-clause-floored_below : goal.returns-clause-floored_below
returns-clause-floored_below c = floored_below

pub returns-clause-quotient : goal.returns-clause-quotient
returns-clause-quotient c = sdiv_stands
