use Rattle.engine_form.proofs.CopyLemmas.{gate_fits}
use Rattle.engine_form.proofs.copies.push_gates.Goals as goal

pub push_gate-requires-clause-ordered : goal.push_gate-requires-clause-ordered
push_gate-requires-clause-ordered c =
    (gate_fits c.args.made.now c.loop-gate.made c.args.gates.now c.loop-gate.gate-index c.gate-item.result c.loop-gate.invariant c.requires.ordered c.requires.few c.loop-gate-test.true c.gate-item.is).0

pub push_gate-requires-clause-defined : goal.push_gate-requires-clause-defined
push_gate-requires-clause-defined c =
    (gate_fits c.args.made.now c.loop-gate.made c.args.gates.now c.loop-gate.gate-index c.gate-item.result c.loop-gate.invariant c.requires.ordered c.requires.few c.loop-gate-test.true c.gate-item.is).1

pub push_gate-requires-clause-few : goal.push_gate-requires-clause-few
push_gate-requires-clause-few c =
    (gate_fits c.args.made.now c.loop-gate.made c.args.gates.now c.loop-gate.gate-index c.gate-item.result c.loop-gate.invariant c.requires.ordered c.requires.few c.loop-gate-test.true c.gate-item.is).2
