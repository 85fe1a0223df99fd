use Rattle.std.proofs.Common.{◌≡◌, ℕ, List, Ok, length}
use Rattle.std.specs.Io.KnownBytes.{prepend_known}
use Rattle.base.specs.Writing.{WritesText}
use Rattle.engine_form.specs.EngineForm.{input_count}
use Rattle.restore.specs.Steps.{frames_left}
use Rattle.restore.proofs.RestoringLemmas.{Frames}
use Rattle.restore.proofs.restoring.take_frames.Given as goal

abbrev pub invariant-loop-restorer : goal.invariant-loop-restorer
invariant-loop-restorer g l = record {
  frames : Frames (g.W.Writer.put_for l.writer) g.K.Sink.written g.K.Sink.failures (g.S.Source.to_come l.initial.source) (prepend_known l.reader.rest (g.S.Source.to_come l.source)) l.initial.sink l.sink l.initial.pen l.pen l.initial.reader l.reader l.initial.restorer l.restorer;
  width : length l.reader.frame ≡ input_count l.restorer.circuit;
  well : l.pen.answer ≡ Ok tt;
  writes : (text : List ℕ) × WritesText g.K.Sink.written g.K.Sink.failures l.initial.sink l.sink l.initial.pen l.pen text;
  read : g.S.Source.failures l.source ≡ g.S.Source.failures l.initial.source;
}

abbrev pub decreases-loop-restorer : goal.decreases-loop-restorer
decreases-loop-restorer g l = frames_left l.reader (g.S.Source.calls_left l.source)
