use Rattle.std.proofs.Common.{◌≡◌}
use Rattle.std.specs.Io.KnownBytes.{prepend_known}
use Rattle.base.specs.Held.{lines_left}
use Rattle.btor2text.proofs.StoppingLemmas.{Follows}
use Rattle.btor2text.proofs.reading.read_lines.Given as goal

abbrev pub invariant-loop-lines : goal.invariant-loop-lines
invariant-loop-lines g l = record {
  follows : Follows (g.S.Source.to_come l.initial.source) l.initial.model (prepend_known l.lines.rest (g.S.Source.to_come l.source)) l.line l.model;
  counted : g.S.Source.failures l.source ≡ g.S.Source.failures l.initial.source;
}

abbrev pub decreases-loop-lines : goal.decreases-loop-lines
decreases-loop-lines g l = lines_left l.lines.rest (g.S.Source.calls_left l.source)
