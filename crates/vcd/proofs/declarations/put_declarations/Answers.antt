use Rattle.base.proofs.PenLemmas.{writes_then}
use Rattle.vcd.proofs.PartLemmas.{declaration_parts}
use Rattle.vcd.proofs.declarations.put_declarations.Goals as goal

pub returns : goal.returns
returns g c =
    rw (declaration_parts c.args.shown c.args.title.now c.args.model.now)
    (writes_then c.put.ensures (writes_then c.put_title.ensures (writes_then c.put-2.ensures (writes_then c.put_scopes.ensures c.put-3.ensures))))
