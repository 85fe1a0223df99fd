use Rattle.std.proofs.Common.{◌≡◌, ◌≤◌, length, take}
use Rattle.std.specs.Io.KnownBytes.{prepend_known, Keeps}
use Rattle.base.specs.Lines.{IsLine}
use Rattle.base.specs.Held.{lines_left}
use Rattle.base.proofs.line_reader.LineReader.advance.Given as goal

abbrev pub invariant-loop-seen : goal.invariant-loop-seen
invariant-loop-seen g l = record {
  within : l.seen ≤ length l.self.rest;
  none : IsLine (take l.seen l.self.rest);
  kept : Keeps (prepend_known l.initial.self.rest (g.S.Source.to_come l.initial.source)) (prepend_known l.self.rest (g.S.Source.to_come l.source));
  left : lines_left l.self.rest (g.S.Source.calls_left l.source) ≤ lines_left l.initial.self.rest (g.S.Source.calls_left l.initial.source);
  counted : g.S.Source.failures l.source ≡ g.S.Source.failures l.initial.source;
}

abbrev pub decreases-loop-seen : goal.decreases-loop-seen
decreases-loop-seen g l = g.S.Source.calls_left l.source
