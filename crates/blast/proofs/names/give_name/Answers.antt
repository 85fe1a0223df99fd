use Rattle.std.proofs.Common.{rules}
use Rattle.blast.proofs.NameLemmas.{nothing_refused, Renames-name}
use Rattle.blast.proofs.names.give_name.Goals as goal

pub unreachable-requires : goal.unreachable-requires
unreachable-requires c =
    let none = (nothing_refused c.args.circuit.now c.args.section c.args.position c.args.name.now c.requires.free c.requires.name).1 in
    search (rules, none)

pub returns-in-Ok-clause-ok : goal.returns-in-Ok-clause-ok
returns-in-Ok-clause-ok c =
    let free = nothing_refused c.args.circuit.now c.args.section c.args.position c.args.name.now c.requires.free c.requires.name in
    Renames-name c.args.section c.args.circuit.now c.set_name.new.self c.args.position c.args.name.now free.0 c.in-Ok.ensures.ok
