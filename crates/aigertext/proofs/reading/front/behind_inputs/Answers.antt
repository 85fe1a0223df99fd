use Rattle.std.proofs.Common.{arith}
use Rattle.aigertext.proofs.PutsLemmas.{inputs_step}
use Rattle.aigertext.proofs.reading.front.behind_inputs.Goals as goal

pub loop-index-preserved : goal.loop-index-preserved
loop-index-preserved c =
    inputs_step c.loop-index.index c.in_ok-number.number c.args.text.now c.loop-index.rest.now c.in_ok-number.behind.now c.loop-index.invariant c.in_ok-number.ensures (omega arith)
