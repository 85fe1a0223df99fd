use Rattle.base.proofs.PenLemmas.{writes_then}
use Rattle.vcd.proofs.PartLemmas.{scope_parts}
use Rattle.vcd.proofs.declarations.put_scope.Goals as goal

pub returns : goal.returns
returns g c =
    let name = rw c.scope_name.ensures at c.put-2.ensures in
    rw (scope_parts c.args.shown c.args.model.now c.args.scope)
    (writes_then c.put.ensures (writes_then name (writes_then c.put-3.ensures (writes_then c.put_vars.ensures c.put-4.ensures))))
