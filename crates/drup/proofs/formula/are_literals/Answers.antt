use Rattle.std.proofs.Common.{subst, arith}
use Rattle.std.proofs.lemmas.List.{take_all}
use Rattle.std.proofs.lemmas.List.Elements.{All-more}
use Rattle.std.specs.Prelude.{All}
use Rattle.drup.specs.Formula.{IsLiteral}
use Rattle.drup.proofs.formula.are_literals.Goals as goal

pub loop-literal-preserved : goal.loop-literal-preserved
loop-literal-preserved c =
    All-more (IsLiteral c.args.variables) c.args.clause.now c.loop-literal.literal-index 0 c.loop-literal-test.true c.loop-literal.invariant c.if-not-is_literal.ensures

pub returns : goal.returns
returns c =
    subst (All (IsLiteral c.args.variables)) (take_all c.loop-literal.literal-index c.args.clause.now (omega (arith, c.loop-literal-test.false)))
    c.loop-literal.invariant
