use Rattle.std.proofs.Common.{sym, subst}
use Rattle.drup.specs.Named.{Kept, AreNamed}
use Rattle.drup.proofs.named.Named.clause.Goals as goal

pub clause-requires : goal.clause-requires
clause-requires c = (subst (λ (n : Kept). AreNamed n c.requires.0) (sym c.self.view_is) c.requires.1).inside c.args.id c.in-Some.place (sym c.in-Some.ensures)
