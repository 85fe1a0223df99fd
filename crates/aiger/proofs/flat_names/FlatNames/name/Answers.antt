use Rattle.std.proofs.Common.{sym}
use Rattle.aiger.proofs.FlatNameLemmas.{flat_found, flat_missed}
use Rattle.aiger.proofs.flat_names.FlatNames.name.Goals as goal

pub returns-in-Ok : goal.returns-in-Ok
returns-in-Ok c =
    rw (← c.self.view_is)
    (sym (flat_found c.self.inside.keys.items c.self.inside.names c.deref.result.now c.in-Ok.place c.args.key c.row.result.now c.self.invariant c.deref.ensures.value c.in-Ok.ensures.position c.row.ensures))

pub returns-in-Err : goal.returns-in-Err
returns-in-Err c =
    rw (← c.self.view_is)
    (sym (flat_missed c.self.inside.keys.items c.self.inside.names c.deref.result.now c.in-Err.field-0 c.args.key c.self.invariant c.deref.ensures.value c.in-Err.ensures.position))
