use Rattle.std.proofs.Common.{◌*◌, ◌<◌, ◌≤◌, arith}
use Rattle.aigertext.proofs.FormLemmas.{ordered_at}
use Rattle.aigertext.proofs.writing.gates.write_gates.Goals as goal

pub write_gate-end-requires-clause-below : goal.write_gate-end-requires-clause-below
write_gate-end-requires-clause-below c =
    let ordered : (c.gate-item.result.rhs0 < 2 * c.loop-gate.variable) × (c.gate-item.result.rhs1 ≤ c.gate-item.result.rhs0) =
    ordered_at c.args.first c.loop-gate.variable c.loop-gate.gate-index c.args.gates.now c.gate-item.result c.requires.ordered c.loop-gate-test.true c.loop-gate.invariant.in_order c.gate-item.is in
    omega (arith, ordered.0)

pub write_gate-end-requires-clause-ordered : goal.write_gate-end-requires-clause-ordered
write_gate-end-requires-clause-ordered c =
    (ordered_at c.args.first c.loop-gate.variable c.loop-gate.gate-index c.args.gates.now c.gate-item.result c.requires.ordered c.loop-gate-test.true c.loop-gate.invariant.in_order c.gate-item.is).1
