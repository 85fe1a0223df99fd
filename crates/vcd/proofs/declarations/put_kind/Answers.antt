use Rattle.base.proofs.PenLemmas.{writes_then}
use Rattle.vcd.proofs.declarations.put_kind.Goals as goal

pub returns : goal.returns
returns g c = writes_then c.put.ensures (writes_then c.put_number.ensures (writes_then c.put-2.ensures (writes_then c.put_number-2.ensures c.put-3.ensures)))
