use native.Mathlib.Omega.{arith}
use Rattle.std.proofs.Common.{ap, ◌∙◌}
use Rattle.aiger.specs.Circuit.{Circuit}
use Rattle.runs.specs.CircuitRun.{CircuitRun}
use Rattle.vectors.proofs.RunLemmas.{bit_set, set_run}
use Rattle.vectors.proofs.circuits.set_word.Goals as goal

pub loop-k-preserved : goal.loop-k-preserved
loop-k-preserved c =
    let circuit = ap (λ (r : CircuitRun). r.circuit) c.set_input.ensures in
    let inputs = ap (λ (r : CircuitRun). r.inputs) c.set_input.ensures in
    let many = ap (λ (d : Circuit). d.inputs) c.loop-k.invariant.same in
    record {
      same = circuit ∙ c.loop-k.invariant.same;
      run = set_run c.loop-k.run c.set_input.new.self _ _ circuit (ap (λ (r : CircuitRun). r.latches) c.set_input.ensures) inputs c.loop-k.invariant.run;
      inputs =
          bit_set c.loop-k.run.inputs c.set_input.new.self.inputs c.args.first c.loop-k.k c.args.width c.loop-k.left _ (omega (arith, c.loop-k-test.true, c.bits-k-end.ensures.same))
          (omega (arith, c.loop-k-test.true, c.bits-k-end.ensures.same, c.requires.room, c.loop-k.invariant.run.inputs, many)) inputs c.loop-k.invariant.inputs;
    }
