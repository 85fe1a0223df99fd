use Rattle.std.proofs.Common.{rules}
use Rattle.engine_form.proofs.MoveLemmas.{name_fits}
use Rattle.engine_form.proofs.moves.give_name.Goals as goal

pub unreachable-requires : goal.unreachable-requires
unreachable-requires c =
    let none = name_fits c.args.made.now c.args.section c.args.position c.args.name.now c.requires.there c.requires.free c.requires.name in
    search (rules, none)
