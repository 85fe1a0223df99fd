use Rattle.drup.proofs.WordLemmas.{no_word}
use Rattle.drup.proofs.word.Word.new.Goals as goal

pub returns : goal.returns
returns c = no_word c.new.result c.new.ensures
