use Rattle.std.proofs.Common.{map, drop}
use Rattle.base.proofs.PenLemmas.{Writing}
use Rattle.fullmodel.specs.Lines.{line_of}
use Rattle.fulltext.specs.Writing.{written_full}
use Rattle.fulltext.proofs.writing.put_lines.Given as goal

abbrev pub invariant-loop-line : goal.invariant-loop-line
invariant-loop-line g l = Writing g.K.Sink.written g.K.Sink.failures l.initial.sink l.sink l.initial.pen l.pen (written_full (map line_of l.lines)) (written_full (map line_of (drop l.line-index l.lines)))
