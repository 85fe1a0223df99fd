use Rattle.meaning.proofs.BitTextLemmas.{bits_same}
use Rattle.meaning.proofs.WordTextLemmas.{words_same}
use Rattle.meaning.proofs.strict_texts.strict_texts.Goals as goal

pub returns : goal.returns
returns c = record { words = words_same; bits = bits_same }
