use Rattle.std.proofs.Common.{◌∙◌}
use Rattle.std.proofs.lemmas.Bool.{eq-eqb, ne_eqb}
use Rattle.base.proofs.NumeralLemmas.{zero_kept}
use Rattle.base.proofs.numeral.Numeral.is_zero.Goals as goal

pub returns-then-self-eq1 : goal.returns-then-self-eq1
returns-then-self-eq1 c bytes h = rw (eq-eqb c.args.self.count 1 c.if-self-eq1.true) at (zero_kept c.args.self bytes h)

pub returns-else-self-eq1 : goal.returns-else-self-eq1
returns-else-self-eq1 c bytes h = ne_eqb c.args.self.count 1 c.if-self-eq1.false ∙ (rw (ne_eqb c.args.self.count 1 c.if-self-eq1.false) at (zero_kept c.args.self bytes h))
