use Rattle.std.proofs.Common.{length}
use Rattle.tidy.proofs.TakenLemmas.{Taken}
use Rattle.tidy.proofs.tidying.Tidying.take_piece.Given as goal

abbrev pub invariant-loop-line : goal.invariant-loop-line
invariant-loop-line g l = Taken g.K.Sink.written g.K.Sink.failures l.initial.sink l.sink l.initial.self l.self l.piece l.rest

abbrev pub decreases-loop-line : goal.decreases-loop-line
decreases-loop-line g l = length l.rest
