use Rattle.witness.proofs.BitReadLemmas.{bit_says_one}
use Rattle.witness.proofs.bit_laws.one_bit_reading.Goals as goal

pub returns : goal.returns
returns c = bit_says_one
