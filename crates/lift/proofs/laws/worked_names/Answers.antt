use Rattle.std.proofs.Common.{refl}
use Rattle.std.specs.Fmt.{digits}
use Rattle.base.specs.Decimals.{is_decimal, capped_value, number_of}
use Rattle.witness.specs.Readings.{next_line, reading}
use Rattle.witness.specs.BitAdmits.{bit_admit}
use Rattle.lift.specs.Lifted.{lifted_with}
use Rattle.lift.proofs.laws.worked_names.Goals as goal

pub returns-clause-inputs : goal.returns-clause-inputs
unfolding digits lifted_with reading next_line bit_admit number_of capped_value is_decimal
returns-clause-inputs c = refl

pub returns-clause-free : goal.returns-clause-free
unfolding digits lifted_with reading next_line bit_admit number_of capped_value is_decimal
returns-clause-free c = refl

pub returns-clause-none : goal.returns-clause-none
unfolding digits lifted_with reading next_line bit_admit number_of capped_value is_decimal
returns-clause-none c = refl

pub returns-clause-fits : goal.returns-clause-fits
unfolding digits lifted_with reading next_line bit_admit number_of capped_value is_decimal
returns-clause-fits c = refl

pub returns-clause-too_long : goal.returns-clause-too_long
unfolding digits lifted_with reading next_line bit_admit number_of capped_value is_decimal
returns-clause-too_long c = refl
