use Rattle.base.proofs.PenLemmas.{writes_then, writes_none}
use Rattle.restore.proofs.restorer.put_opening.Goals as goal

pub returns : goal.returns
returns g c = writes_then c.put_line.ensures (writes_then c.put_line-2.ensures (writes_then c.put_line-3.ensures writes_none))
