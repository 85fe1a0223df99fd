use Rattle.std.proofs.Common.{length, ap, arith}
use Rattle.aigertext.proofs.PassOverLemmas.{many_used}
use Rattle.aigertext.proofs.reading.ascii.uses_before_gates.Goals as goal

pub returns-clause-count : goal.returns-clause-count
returns-clause-count c =
    omega (
      arith,
      many_used c.args.lists.now,
      ap length c.latches.ensures.items,
      ap length c.outputs.ensures.items,
      ap length c.bads.ensures.items,
      ap length c.constraints.ensures.items,
      c.justice_literals.ensures.sum,
      ap length c.fair.ensures.items,
    )
