use Rattle.std.proofs.Common.{refl}
use Rattle.witness.proofs.BitReadLemmas.{all_bits_read, bit_says_read, bit_read_says}
use Rattle.witness.proofs.bit_laws.bit_texts_read.Goals as goal

pub returns : goal.returns
returns c = record { read = λ circuit text w valid says. (all_bits_read w, (bit_says_read circuit text w valid says, refl)); said = bit_read_says }
