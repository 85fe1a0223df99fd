use Rattle.std.proofs.Common.{refl}
use Rattle.base.specs.Decimals.{is_decimal, capped_value, number_of}
use Rattle.lrat.proofs.laws.worked_faults.Goals as goal

pub returns-clause-word : goal.returns-clause-word
unfolding number_of is_decimal capped_value
returns-clause-word c = refl

pub returns-clause-zeros : goal.returns-clause-zeros
unfolding number_of is_decimal capped_value
returns-clause-zeros c = refl

pub returns-clause-great_id : goal.returns-clause-great_id
unfolding number_of is_decimal capped_value
returns-clause-great_id c = refl

pub returns-clause-no_id : goal.returns-clause-no_id
unfolding number_of is_decimal capped_value
returns-clause-no_id c = refl

pub returns-clause-within : goal.returns-clause-within
unfolding number_of is_decimal capped_value
returns-clause-within c = refl

pub returns-clause-behind : goal.returns-clause-behind
unfolding number_of is_decimal capped_value
returns-clause-behind c = refl

pub returns-clause-negative_id : goal.returns-clause-negative_id
unfolding number_of is_decimal capped_value
returns-clause-negative_id c = refl

pub returns-clause-no_hint : goal.returns-clause-no_hint
unfolding number_of is_decimal capped_value
returns-clause-no_hint c = refl

pub returns-clause-resolving : goal.returns-clause-resolving
unfolding number_of is_decimal capped_value
returns-clause-resolving c = refl

pub returns-clause-variable : goal.returns-clause-variable
unfolding number_of is_decimal capped_value
returns-clause-variable c = refl

pub returns-clause-cut_off : goal.returns-clause-cut_off
unfolding number_of is_decimal capped_value
returns-clause-cut_off c = refl

pub returns-clause-cut_deletion : goal.returns-clause-cut_deletion
unfolding number_of is_decimal capped_value
returns-clause-cut_deletion c = refl
