use Rattle.std.proofs.Common.{arith}
use Rattle.aigertext.proofs.PassOverLemmas.{cycle_within}
use Rattle.aigertext.proofs.reading.ascii.named.Goals as goal

pub overflow_add-k : goal.overflow_add-k
overflow_add-k c =
    omega (arith, c.uses_before_gates.ensures.small, c.uses_before_gates.ensures.few, cycle_within c.args.lists.now c.in-Err-Cycle.field-0 c.in-Err-Cycle.gate c.in-Err-Cycle.ensures c.in-Err-Cycle.field-0-is)
