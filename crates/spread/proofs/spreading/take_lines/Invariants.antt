use Rattle.std.proofs.Common.{◌≡◌, false, is_err}
use Rattle.std.specs.Io.KnownBytes.{prepend_known}
use Rattle.base.specs.Held.{lines_left}
use Rattle.spread.proofs.SourceLemmas.{Followed}
use Rattle.spread.proofs.spreading.take_lines.Given as goal

-- what the lines so far become is taken and heard, the open part is known, and nothing failed
abbrev pub invariant-loop-spreader : goal.invariant-loop-spreader
invariant-loop-spreader g l = record {
  followed : Followed g.K.Sink.written g.K.Sink.failures g.H.Hearer.stands (g.L.Lines.becomes l.lines) l.part l.initial.sink l.sink l.initial.pen l.pen l.initial.spreader l.spreader l.initial.hearer l.hearer (g.S.Source.to_come l.initial.source) (prepend_known l.reader.rest (g.S.Source.to_come l.source));
  well : is_err l.pen.answer ≡ false;
  counted : g.S.Source.failures l.source ≡ g.S.Source.failures l.initial.source;
}

abbrev pub decreases-loop-spreader : goal.decreases-loop-spreader
decreases-loop-spreader g l = lines_left l.reader.rest (g.S.Source.calls_left l.source)
