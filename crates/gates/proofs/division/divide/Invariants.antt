use Rattle.std.proofs.Common.{◌+◌, ◌-◌, ◌*◌, length, drop}
use Rattle.gates.specs.Division.{MakesDivision}
use Rattle.gates.proofs.division.divide.Given as goal

abbrev pub invariant-loop-done : goal.invariant-loop-done
invariant-loop-done g l = MakesDivision (g.G.Gates.made l.fn.g) (g.G.Gates.made l.g) ((12 * length l.b + 9) * l.done) (drop (length l.a - l.done) l.a) l.b l.quotient.items l.remainder.items
