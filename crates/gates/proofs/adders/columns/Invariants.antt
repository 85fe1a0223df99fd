use Rattle.std.proofs.Common.{◌*◌, take}
use Rattle.gates.specs.Sums.{MakesSum}
use Rattle.gates.proofs.adders.columns.Given as goal

abbrev pub invariant-loop-i : goal.invariant-loop-i
invariant-loop-i g l = MakesSum (g.G.Gates.made l.fn.g) (g.G.Gates.made l.g) (7 * l.i) (take l.i l.a) (take l.i l.b) l.fn.carry l.sum.items l.into_top l.out
