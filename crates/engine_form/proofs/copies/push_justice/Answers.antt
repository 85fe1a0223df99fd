use Rattle.std.proofs.Common.{rules}
use Rattle.engine_form.proofs.CopyLemmas.{justice_fits}
use Rattle.engine_form.proofs.copies.push_justice.Goals as goal

pub unreachable-requires : goal.unreachable-requires
unreachable-requires c =
    let none = justice_fits c.args.made.now c.args.lits.now c.requires.defined c.requires.few c.requires.small in
    search (rules, none)
