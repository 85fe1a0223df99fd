use Rattle.std.proofs.Common.{refl}
use Rattle.base.specs.Decimals.{number_of, is_decimal, capped_value}
use Rattle.certificates.proofs.laws.worked_texts.Goals as goal

pub returns-clause-two : goal.returns-clause-two
unfolding number_of is_decimal capped_value
returns-clause-two c = refl

pub returns-clause-named : goal.returns-clause-named
unfolding number_of is_decimal capped_value
returns-clause-named c = refl

pub returns-clause-none : goal.returns-clause-none
unfolding number_of is_decimal capped_value
returns-clause-none c = refl

pub returns-clause-inputs : goal.returns-clause-inputs
unfolding number_of is_decimal capped_value
returns-clause-inputs c = refl

pub returns-clause-outputs : goal.returns-clause-outputs
unfolding number_of is_decimal capped_value
returns-clause-outputs c = refl

pub returns-clause-count : goal.returns-clause-count
unfolding number_of is_decimal capped_value
returns-clause-count c = refl

pub returns-clause-names : goal.returns-clause-names
unfolding number_of is_decimal capped_value
returns-clause-names c = refl

pub returns-clause-no_latch : goal.returns-clause-no_latch
unfolding number_of is_decimal capped_value
returns-clause-no_latch c = refl

pub returns-clause-twice : goal.returns-clause-twice
unfolding number_of is_decimal capped_value
returns-clause-twice c = refl

pub returns-clause-few_names : goal.returns-clause-few_names
unfolding number_of is_decimal capped_value
returns-clause-few_names c = refl

pub returns-clause-output : goal.returns-clause-output
unfolding number_of is_decimal capped_value
returns-clause-output c = refl

pub returns-clause-byte : goal.returns-clause-byte
unfolding number_of is_decimal capped_value
returns-clause-byte c = refl

pub returns-clause-no_output : goal.returns-clause-no_output
unfolding number_of is_decimal capped_value
returns-clause-no_output c = refl

pub returns-clause-long : goal.returns-clause-long
unfolding number_of is_decimal capped_value
returns-clause-long c = refl

pub returns-clause-at_start : goal.returns-clause-at_start
unfolding number_of is_decimal capped_value
returns-clause-at_start c = refl

pub returns-clause-few_cubes : goal.returns-clause-few_cubes
unfolding number_of is_decimal capped_value
returns-clause-few_cubes c = refl

pub returns-clause-many_cubes : goal.returns-clause-many_cubes
unfolding number_of is_decimal capped_value
returns-clause-many_cubes c = refl

pub returns-clause-behind : goal.returns-clause-behind
unfolding number_of is_decimal capped_value
returns-clause-behind c = refl

pub returns-clause-cut_off : goal.returns-clause-cut_off
unfolding number_of is_decimal capped_value
returns-clause-cut_off c = refl
