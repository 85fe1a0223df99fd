use Rattle.witness.proofs.BitReadLemmas.{differ_from_no_reset}
use Rattle.witness.proofs.bit_laws.initial_bits_differ_from_no_reset.Goals as goal

pub returns : goal.returns
returns c = differ_from_no_reset 0
