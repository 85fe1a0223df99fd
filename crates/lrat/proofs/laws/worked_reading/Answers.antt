use Rattle.std.proofs.Common.{refl}
use Rattle.base.specs.Decimals.{is_decimal, capped_value, number_of}
use Rattle.lrat.proofs.laws.worked_reading.Goals as goal

pub returns-clause-steps : goal.returns-clause-steps
unfolding number_of is_decimal capped_value
returns-clause-steps c = refl

pub returns-clause-over_lines : goal.returns-clause-over_lines
unfolding number_of is_decimal capped_value
returns-clause-over_lines c = refl

pub returns-clause-deletions : goal.returns-clause-deletions
unfolding number_of is_decimal capped_value
returns-clause-deletions c = refl

pub returns-clause-greatest_id : goal.returns-clause-greatest_id
unfolding number_of is_decimal capped_value
returns-clause-greatest_id c = refl

pub returns-clause-nothing : goal.returns-clause-nothing
unfolding number_of is_decimal capped_value
returns-clause-nothing c = refl
