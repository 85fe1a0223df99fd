use Rattle.base.proofs.PenLemmas.{writes_then}
use Rattle.vcd.proofs.names.put_own_name.Goals as goal

pub returns : goal.returns
returns g c = rw c.own_name-own.ensures at (writes_then c.put.ensures c.put_number.ensures)
