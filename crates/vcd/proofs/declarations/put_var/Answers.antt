use Rattle.base.proofs.PenLemmas.{writes_then}
use Rattle.vcd.proofs.PartLemmas.{var_pieces}
use Rattle.vcd.proofs.declarations.put_var.Goals as goal

pub returns : goal.returns
returns g c = rw (var_pieces c.args.width c.args.item.now.id _) (writes_then c.put_kind.ensures (writes_then c.put_name.ensures (writes_then c.put_range.ensures c.put.ensures)))
