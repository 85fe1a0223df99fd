use Rattle.std.proofs.Common.{length, ap, arith}
use Rattle.base.proofs.RowLemmas.{length-rows_from}
use Rattle.base.proofs.rows.Rows.len.Goals as goal

pub returns : goal.returns
returns g c = omega (arith, c.len.ensures, ap length c.self.view_is, length-rows_from 0 c.self.inside.ends.items c.self.inside.values.items)
