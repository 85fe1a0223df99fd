use Rattle.std.proofs.Common.{length}
use Rattle.base.specs.Lines.{IsLine}
use Rattle.tidy.proofs.TakenLemmas.{Taken}
use Rattle.tidy.proofs.tidying.Tidying.take_part.Given as goal

abbrev pub invariant-loop-rest : goal.invariant-loop-rest
invariant-loop-rest g l = record {
  taken : Taken g.K.Sink.written g.K.Sink.failures l.initial.sink l.sink l.initial.self l.self l.part l.rest;
  is_line : IsLine l.rest;
}

abbrev pub decreases-loop-rest : goal.decreases-loop-rest
decreases-loop-rest g l = length l.rest
