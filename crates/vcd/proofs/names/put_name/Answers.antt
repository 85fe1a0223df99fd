use Rattle.base.proofs.PenLemmas.{writes_then}
use Rattle.vcd.proofs.NameLemmas.{name_parts}
use Rattle.vcd.proofs.names.put_name.Goals as goal

pub returns : goal.returns
returns g c =
    let front = rw c.prefix.ensures at c.put.ensures in
    rw (name_parts c.args.scope c.args.number c.args.item.now c.args.apart c.is_escaped.result (c.is_escaped.ensures c.args.number))
    (writes_then c.put_escape.ensures (writes_then front (writes_then c.put_stem.ensures c.put_id.ensures)))
