use Rattle.std.proofs.Common.{ap, sym, subst, ◌∙◌}
use Rattle.drup.specs.Named.{Kept, clause_of, AreNamed, IsTight}
use Rattle.drup.proofs.NamedLemmas.{swept_clause, swept_tight}
use Rattle.drup.proofs.named.Named.sweep.Goals as goal

pub returns-clause-named : goal.returns-clause-named
returns-clause-named c limit named = subst (λ (n : Kept). AreNamed n limit) (sym c.swept.view_is) (c.in_ok-swept.ensures.named limit named)

pub returns-clause-same : goal.returns-clause-same
returns-clause-same c i = ap (λ (n : Kept). clause_of n i) c.swept.view_is ∙ swept_clause c.args.self.now c.in_ok-swept.swept c.requires.0 i c.requires.1 c.in_ok-swept.ensures

pub returns-clause-tight : goal.returns-clause-tight
returns-clause-tight c = subst IsTight (sym c.swept.view_is) (swept_tight c.args.self.now c.in_ok-swept.swept c.requires.0 c.requires.1 c.in_ok-swept.ensures)
