use Rattle.base.proofs.PenLemmas.{writes_then}
use Rattle.unfit.proofs.frame.put_plain.Goals as goal

pub returns-in-Nothing : goal.returns-in-Nothing
returns-in-Nothing g c = rw c.in-Nothing.is (writes_then c.put.ensures c.put-in-Nothing.ensures)
