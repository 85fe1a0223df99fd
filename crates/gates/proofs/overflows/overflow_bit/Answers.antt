use Rattle.std.proofs.Common.{length}
use Rattle.gates.proofs.OperatorLemmas.{overflow_width}
use Rattle.gates.proofs.overflows.overflow_bit.Goals as goal

pub returns-clause-ok : goal.returns-clause-ok
returns-clause-ok g c =
    let op = c.args.op in
    let n = length c.args.a.now in
    rw (overflow_width op n c.requires.overflow, c.one_bit.ensures) c.in_ok-lit.ensures.ok
