use Rattle.std.proofs.Common.{◌*◌}
use Rattle.base.specs.Gates.{ArePut}
use Rattle.base.proofs.and_gates.gate_all.Given as goal

abbrev pub invariant-loop-turn : goal.invariant-loop-turn
invariant-loop-turn g l =
    record { put : ArePut (g.G.AndGates.left l.gates) (g.G.AndGates.right l.gates) l.first 0 (64 * l.turn) l.fn.bits l.bits }

abbrev pub invariant-loop-turn-2 : goal.invariant-loop-turn-2
invariant-loop-turn-2 g l =
    record { put : ArePut (g.G.AndGates.left l.gates) (g.G.AndGates.right l.gates) l.first 0 (4 * l.turn) l.fn.bits l.bits }

abbrev pub invariant-loop-k : goal.invariant-loop-k
invariant-loop-k g l =
    record { put : ArePut (g.G.AndGates.left l.gates) (g.G.AndGates.right l.gates) l.first 0 l.k l.fn.bits l.bits }
