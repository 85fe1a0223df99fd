-- The first line that has a fault is the first of justice or of fairness.
use Rattle.std.proofs.Common.{arith}
use Rattle.writeout.proofs.LiveLemmas.{first_of_kind}
use Rattle.writeout.proofs.live.first_live.Goals as goal

pub returns-in-Some-clause-err : goal.returns-in-Some-clause-err
returns-in-Some-clause-err c = first_of_kind c.args.lines.now c.loop-line.line-index c.line-item.result c.in-Some.fault (omega arith) c.line-item.is c.loop-line.invariant c.in-Some.ensures.some
