use Rattle.std.proofs.Common.{refl}
use Rattle.base.specs.Decimals.{is_decimal, capped_value, number_of}
use Rattle.base.proofs.laws.worked_decimals.Goals as goal

pub returns-clause-zero : goal.returns-clause-zero
unfolding number_of capped_value is_decimal
returns-clause-zero c = refl

pub returns-clause-forty_two : goal.returns-clause-forty_two
unfolding number_of capped_value is_decimal
returns-clause-forty_two c = refl

pub returns-clause-leading_zero : goal.returns-clause-leading_zero
unfolding number_of capped_value is_decimal
returns-clause-leading_zero c = refl

pub returns-clause-signed : goal.returns-clause-signed
unfolding number_of capped_value is_decimal
returns-clause-signed c = refl

pub returns-clause-letter : goal.returns-clause-letter
unfolding number_of capped_value is_decimal
returns-clause-letter c = refl

pub returns-clause-empty : goal.returns-clause-empty
unfolding number_of capped_value is_decimal
returns-clause-empty c = refl

pub returns-clause-greatest : goal.returns-clause-greatest
unfolding number_of capped_value is_decimal
returns-clause-greatest c = refl

pub returns-clause-above : goal.returns-clause-above
unfolding number_of capped_value is_decimal
returns-clause-above c = refl
