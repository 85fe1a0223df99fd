use Rattle.std.proofs.Common.{◌≡◌, None, rules}
use Rattle.lift.proofs.NameLemmas.{no_name}
use Rattle.lift.proofs.pieces.add_name.Goals as goal

pub returns-in_default-clause-name : goal.returns-in_default-clause-name
returns-in_default-clause-name c =
    let none : c.args.item.now.symbol ≡ None = search rules in
    rw (no_name c.args.named c.args.frame c.args.item.now none) (search rules)
