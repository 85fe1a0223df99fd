use Rattle.std.proofs.Common.{take}
use Rattle.std.specs.Prelude.{All}
use Rattle.drup.specs.Formula.{IsLiteral}
use Rattle.drup.proofs.formula.are_literals.Given as goal

-- the literals before are of the variables
abbrev pub invariant-loop-literal : goal.invariant-loop-literal
invariant-loop-literal l = All (IsLiteral l.variables) (take l.literal-index l.clause)
