use Rattle.std.proofs.Common.{◌≡◌}
use Rattle.std.specs.Io.KnownBytes.{prepend_known}
use Rattle.base.specs.Held.{lines_left}
use Rattle.certificates.specs.Reader.{AgreeAsLines, lines_begun}
use Rattle.certificates.proofs.reader.read_invariant.Given as goal

-- the text gives what the lines so far and what follows them give
abbrev pub invariant-loop-is_whole : goal.invariant-loop-is_whole
invariant-loop-is_whole g l = record {
  same : AgreeAsLines 0 (lines_begun l.latches) (g.S.Source.to_come l.initial.source) l.number l.progress (prepend_known l.lines.rest (g.S.Source.to_come l.source));
  latches : l.progress.latches ≡ l.latches;
  counted : g.S.Source.failures l.source ≡ g.S.Source.failures l.initial.source;
}

abbrev pub decreases-loop-is_whole : goal.decreases-loop-is_whole
decreases-loop-is_whole g l = lines_left l.lines.rest (g.S.Source.calls_left l.source)
