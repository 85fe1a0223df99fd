use Rattle.std.proofs.Common.{ℕ, ◌+◌, ◌-◌, ◌*◌, ap, ◌∙◌, slice_index}
use Rattle.base.specs.Literal.{literal_value}
use Rattle.aiger.specs.Circuit.{Circuit}
use Rattle.vectors.proofs.RunLemmas.{one_read_before}
use Rattle.vectors.proofs.circuits.output_word.Goals as goal

pub loop-left-preserved : goal.loop-left-preserved
loop-left-preserved c =
    one_read_before c.args.run.now c.args.circuit.now.outputs c.loop-left.left c.loop-left.value (2 * c.loop-left.value + c.from.result) c.output.result
    c.loop-left-test.true c.loop-left.invariant.0 c.loop-left.invariant.1 c.loop-left.invariant.2
    (λ v frame. c.output.ensures v frame ∙ ap (λ (d : Circuit). literal_value v (slice_index d.outputs (c.loop-left.left - 1))) c.requires.same)
    (ap (λ (n : ℕ). 2 * c.loop-left.value + n) c.from.ensures)
