use Rattle.std.proofs.Common.{◌-◌, ◌==◌, not, length, drop}
use Rattle.gates.specs.Made.{MakesLiteral, word_value}
use Rattle.gates.proofs.division.has_bit_from.Given as goal

abbrev pub invariant-loop-above : goal.invariant-loop-above
invariant-loop-above g l = MakesLiteral (g.G.Gates.made l.fn.g) (g.G.Gates.made l.g) l.above (λ v. not (word_value v (drop (length l.a - l.above) l.a) == 0)) l.some
