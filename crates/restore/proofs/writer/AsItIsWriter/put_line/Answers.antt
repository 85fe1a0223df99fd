use Rattle.base.proofs.PenLemmas.{writes_then}
use Rattle.restore.proofs.writer.AsItIsWriter.put_line.Goals as goal

pub returns : goal.returns
returns g c = writes_then c.put.ensures c.put-2.ensures
