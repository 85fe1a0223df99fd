use Rattle.std.proofs.Common.{length}
use Rattle.lift.proofs.LifterLemmas.{Took}
use Rattle.lift.proofs.lifter.Lifter.take.Given as goal

abbrev pub invariant-loop-line : goal.invariant-loop-line
invariant-loop-line g l = Took g.K.Sink.written g.K.Sink.failures l.initial.sink l.sink l.initial.pen l.pen l.initial.self l.self l.bytes l.rest

abbrev pub decreases-loop-line : goal.decreases-loop-line
decreases-loop-line g l = length l.rest
