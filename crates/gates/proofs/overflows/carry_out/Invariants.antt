use Rattle.std.proofs.Common.{◌+◌, ◌*◌, ◌^◌, take, nat_le}
use Rattle.gates.specs.Made.{MakesLiteral, word_value}
use Rattle.gates.specs.Sums.{literal_number}
use Rattle.gates.proofs.overflows.carry_out.Given as goal

abbrev pub invariant-loop-i : goal.invariant-loop-i
invariant-loop-i g l = MakesLiteral (g.G.Gates.made l.fn.g) (g.G.Gates.made l.g) (4 * l.i) (λ v. nat_le (2 ^ l.i) (word_value v (take l.i l.a) + word_value v (take l.i l.b) + literal_number v l.fn.carry)) l.out
