use Rattle.std.proofs.Common.{◌&&◌, take}
use Rattle.base.specs.Literal.{literal_value}
use Rattle.gates.specs.Made.{MakesLiteral}
use Rattle.witness_circuits.specs.Made.{own_initial, values}
use Rattle.witness_circuits.proofs.starts.initial.Given as goal

abbrev pub invariant-loop-j : goal.invariant-loop-j
invariant-loop-j g l = MakesLiteral (g.G.Gates.made l.fn.g) (g.G.Gates.made l.g) l.j (λ v. literal_value v l.fn.so_far && own_initial l.shared (take l.j l.latches) (values v l.bits)) l.so_far
