use Rattle.gates.proofs.SizeLemmas.{IsNegatedRow}
use Rattle.gates.proofs.sizes.negated_where.Given as goal

abbrev pub invariant-loop-i : goal.invariant-loop-i
invariant-loop-i g l = IsNegatedRow (g.G.Gates.made l.fn.g) (g.G.Gates.made l.g) l.i l.negative l.a l.bits.items l.flips
