use Rattle.std.proofs.Common.{◌*◌, take, nat_lt}
use Rattle.gates.specs.Made.{MakesLiteral, word_value}
use Rattle.gates.proofs.comparisons.less.Given as goal

abbrev pub invariant-loop-i : goal.invariant-loop-i
invariant-loop-i g l = MakesLiteral (g.G.Gates.made l.fn.g) (g.G.Gates.made l.g) (4 * l.i) (λ v. nat_lt (word_value v (take l.i l.a)) (word_value v (take l.i l.b))) l.below
