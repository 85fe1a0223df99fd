use Rattle.base.proofs.PenLemmas.{writes_then}
use Rattle.unfit.proofs.words.put_part.Goals as goal

pub returns : goal.returns
returns g c = writes_then c.put_mark.ensures c.put_words.ensures
