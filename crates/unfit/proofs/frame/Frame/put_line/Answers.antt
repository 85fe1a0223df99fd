use Rattle.base.proofs.PenLemmas.{writes_then}
use Rattle.unfit.proofs.frame.Frame.put_line.Goals as goal

pub returns-clause-puts : goal.returns-clause-puts
returns-clause-puts g c = rw c.opened_by-part.ensures at (writes_then c.put_open.ensures.puts c.put_plain.ensures)
