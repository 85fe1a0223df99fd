use Rattle.base.proofs.PenLemmas.{writes_then}
use Rattle.unfit.proofs.words.put_mark.Goals as goal

pub returns : goal.returns
returns g c = writes_then c.put.ensures (writes_then c.put_number.ensures c.put-2.ensures)
