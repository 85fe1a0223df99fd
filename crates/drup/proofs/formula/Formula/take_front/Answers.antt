use Rattle.std.proofs.Common.{sym, subst}
use Rattle.std.specs.Prelude.{All}
use Rattle.drup.specs.Formula.{IsLiteral}
use Rattle.drup.proofs.ClauseBlockLemmas.{all_parts}
use Rattle.drup.proofs.formula.Formula.take_front.Goals as goal

pub invariant_of-self : goal.invariant_of-self
invariant_of-self c = record {
  few = c.self.invariant.few;
  literals = (all_parts (All (IsLiteral c.self.inside.variables)) c.take_front.result c.take_front.new.self (subst (All (All (IsLiteral c.self.inside.variables))) (sym c.take_front.ensures.parts) c.self.invariant.literals)).1;
}

pub invariant_of-result : goal.invariant_of-result
invariant_of-result c = record {
  few = c.self.invariant.few;
  literals = (all_parts (All (IsLiteral c.self.inside.variables)) c.take_front.result c.take_front.new.self (subst (All (All (IsLiteral c.self.inside.variables))) (sym c.take_front.ensures.parts) c.self.invariant.literals)).0;
}
