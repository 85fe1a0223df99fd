use Rattle.std.proofs.Common.{refl}
use Rattle.base.specs.Decimals.{is_decimal, capped_value, number_of}
use Rattle.lrat.proofs.laws.worked_judgements.Goals as goal

pub returns-clause-derived : goal.returns-clause-derived
unfolding number_of is_decimal capped_value
returns-clause-derived c = refl

pub returns-clause-taken_away : goal.returns-clause-taken_away
unfolding number_of is_decimal capped_value
returns-clause-taken_away c = refl

pub returns-clause-not_implied : goal.returns-clause-not_implied
unfolding number_of is_decimal capped_value
returns-clause-not_implied c = refl

pub returns-clause-low_id : goal.returns-clause-low_id
unfolding number_of is_decimal capped_value
returns-clause-low_id c = refl

pub returns-clause-malformed : goal.returns-clause-malformed
unfolding number_of is_decimal capped_value
returns-clause-malformed c = refl

pub returns-clause-not_derived : goal.returns-clause-not_derived
unfolding number_of is_decimal capped_value
returns-clause-not_derived c = refl

pub returns-clause-resolving : goal.returns-clause-resolving
unfolding number_of is_decimal capped_value
returns-clause-resolving c = refl

pub returns-clause-resolving_behind : goal.returns-clause-resolving_behind
unfolding number_of is_decimal capped_value
returns-clause-resolving_behind c = refl
