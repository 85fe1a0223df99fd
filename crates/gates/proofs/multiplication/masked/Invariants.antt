use Rattle.std.proofs.Common.{◌&&◌}
use Rattle.base.specs.Literal.{literal_value}
use Rattle.gates.proofs.BitListLemmas.{IsRow}
use Rattle.gates.proofs.multiplication.masked.Given as goal

abbrev pub invariant-loop-i : goal.invariant-loop-i
invariant-loop-i g l = IsRow (g.G.Gates.made l.fn.g) (g.G.Gates.made l.g) 1 l.i (λ v x y. x && literal_value v l.lit) l.a l.a l.bits.items
