use Rattle.std.proofs.Common.{refl}
use Rattle.std.specs.Fmt.{digits}
use Rattle.base.specs.Decimals.{is_decimal, capped_value, number_of}
use Rattle.witness.specs.Readings.{next_line, reading}
use Rattle.witness.specs.BitAdmits.{bit_admit}
use Rattle.restore.specs.Frames.{with_bits, with_gates, frame_of}
use Rattle.restore.specs.FormWitness.{form_restored_text}
use Rattle.restore.proofs.form_laws.worked_form_texts.Goals as goal

pub returns-clause-free : goal.returns-clause-free
unfolding digits form_restored_text reading next_line bit_admit number_of capped_value is_decimal with_bits with_gates frame_of
returns-clause-free c = refl

pub returns-clause-never : goal.returns-clause-never
unfolding digits form_restored_text reading next_line bit_admit number_of capped_value is_decimal with_bits with_gates frame_of
returns-clause-never c = refl

pub returns-clause-faulty : goal.returns-clause-faulty
unfolding digits form_restored_text reading next_line bit_admit number_of capped_value is_decimal with_bits with_gates frame_of
returns-clause-faulty c = refl

pub returns-clause-unended : goal.returns-clause-unended
unfolding digits form_restored_text reading next_line bit_admit number_of capped_value is_decimal with_bits with_gates frame_of
returns-clause-unended c = refl

pub returns-clause-no_claim : goal.returns-clause-no_claim
unfolding digits form_restored_text reading next_line bit_admit number_of capped_value is_decimal with_bits with_gates frame_of
returns-clause-no_claim c = refl
