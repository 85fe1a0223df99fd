use Rattle.base.proofs.PenLemmas.{writes_then}
use Rattle.vcd.proofs.names.put_id.Goals as goal

pub returns-then-apart : goal.returns-then-apart
returns-then-apart g c = rw c.if-apart.true (writes_then c.put.ensures c.put_number.ensures)
