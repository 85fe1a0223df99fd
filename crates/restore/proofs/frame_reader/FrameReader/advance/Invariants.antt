use Rattle.std.proofs.Common.{◌≡◌, ◌≤◌, length}
use Rattle.std.specs.Io.KnownBytes.{prepend_known}
use Rattle.restore.specs.Steps.{frames_to_come, AgreeAsGiven, frames_left}
use Rattle.restore.proofs.frame_reader.FrameReader.advance.Given as goal

abbrev pub invariant-loop-self : goal.invariant-loop-self
invariant-loop-self g l = record {
  left : AgreeAsGiven (frames_to_come l.initial.self) (frames_to_come l.self) (prepend_known l.initial.self.rest (g.S.Source.to_come l.initial.source)) (prepend_known l.self.rest (g.S.Source.to_come l.source));
  width : length l.self.frame ≡ length l.initial.self.frame;
  fewer : frames_left l.self (g.S.Source.calls_left l.source) ≤ frames_left l.initial.self (g.S.Source.calls_left l.initial.source);
  counted : g.S.Source.failures l.source ≡ g.S.Source.failures l.initial.source;
}

abbrev pub decreases-loop-self : goal.decreases-loop-self
decreases-loop-self g l = frames_left l.self (g.S.Source.calls_left l.source)
