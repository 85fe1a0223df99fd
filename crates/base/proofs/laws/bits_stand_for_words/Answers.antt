use Rattle.base.proofs.BitLemmas.{word-bits, bits-word, bits_at}
use Rattle.base.proofs.laws.bits_stand_for_words.Goals as goal

pub returns-clause-back : goal.returns-clause-back
returns-clause-back c = word-bits

pub returns-clause-forth : goal.returns-clause-forth
returns-clause-forth c = bits-word

pub returns-clause-at : goal.returns-clause-at
returns-clause-at c = bits_at
