use Rattle.std.proofs.Common.{arith}
use Rattle.blast.proofs.WidthLemmas.{states_width}
use Rattle.blast.proofs.widths.state_width.Goals as goal

pub returns-clause-value : goal.returns-clause-value
returns-clause-value c = omega (arith, c.bits.ensures.value, c.carried_width.ensures.value, states_width c.args.model.now c.args.model.now)
