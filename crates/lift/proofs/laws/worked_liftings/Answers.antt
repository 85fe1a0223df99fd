use Rattle.std.proofs.Common.{refl}
use Rattle.std.specs.Fmt.{digits}
use Rattle.base.specs.Decimals.{is_decimal, capped_value, number_of}
use Rattle.witness.specs.Readings.{next_line, reading}
use Rattle.witness.specs.BitAdmits.{bit_admit}
use Rattle.lift.specs.Lifted.{lifted_with}
use Rattle.lift.proofs.laws.worked_liftings.Goals as goal

pub returns-clause-toggles : goal.returns-clause-toggles
unfolding digits lifted_with reading next_line bit_admit number_of capped_value is_decimal
returns-clause-toggles c = refl

pub returns-clause-highest_first : goal.returns-clause-highest_first
unfolding digits lifted_with reading next_line bit_admit number_of capped_value is_decimal
returns-clause-highest_first c = refl

pub returns-clause-faulty : goal.returns-clause-faulty
unfolding digits lifted_with reading next_line bit_admit number_of capped_value is_decimal
returns-clause-faulty c = refl

pub returns-clause-inputs : goal.returns-clause-inputs
unfolding digits lifted_with reading next_line bit_admit number_of capped_value is_decimal
returns-clause-inputs c = refl

pub returns-clause-free : goal.returns-clause-free
unfolding digits lifted_with reading next_line bit_admit number_of capped_value is_decimal
returns-clause-free c = refl

pub returns-clause-no_claim : goal.returns-clause-no_claim
unfolding digits lifted_with reading next_line bit_admit number_of capped_value is_decimal
returns-clause-no_claim c = refl

pub returns-clause-unended : goal.returns-clause-unended
unfolding digits lifted_with reading next_line bit_admit number_of capped_value is_decimal
returns-clause-unended c = refl
