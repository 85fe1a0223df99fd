use Rattle.std.proofs.Common.{arith}
use Rattle.blast.proofs.WidthLemmas.{cost-small}
use Rattle.blast.proofs.widths.cost_and_bound.Goals as goal

pub overflow_add-result-2 : goal.overflow_add-result-2
overflow_add-result-2 c = omega (arith, c.input_width.ensures.small, c.state_width.ensures.small, c.cost-gates.ensures, cost-small c.args.model.now c.items-items.ensures.well_formed)
