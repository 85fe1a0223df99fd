use Rattle.std.proofs.Common.{rules}
use Rattle.std.specs.Fmt.{digits}
use Rattle.base.specs.Decimals.{is_decimal, capped_value, number_of}
use Rattle.witness.specs.Readings.{next_line, reading}
use Rattle.witness.specs.BitAdmits.{bit_admit}
use Rattle.witness.proofs.bit_laws.worked_bit_faults.Goals as goal

pub returns : goal.returns
unfolding digits reading next_line bit_admit number_of capped_value is_decimal
returns c = search rules
