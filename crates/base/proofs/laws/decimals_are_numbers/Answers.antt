use Rattle.base.proofs.DecimalLemmas.{number_of-decimal, number_is_decimal}
use Rattle.base.proofs.laws.decimals_are_numbers.Goals as goal

pub returns-clause-read : goal.returns-clause-read
returns-clause-read c = number_of-decimal

pub returns-clause-spelled : goal.returns-clause-spelled
returns-clause-spelled c = number_is_decimal
