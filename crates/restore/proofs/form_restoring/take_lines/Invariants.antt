use Rattle.std.proofs.Common.{◌≡◌, ℕ, List, Ok, length}
use Rattle.std.specs.Io.KnownBytes.{prepend_known}
use Rattle.base.specs.Held.{lines_left}
use Rattle.base.specs.Writing.{WritesText}
use Rattle.engine_form.specs.EngineForm.{input_count}
use Rattle.restore.proofs.FormTakeLemmas.{FormGiven}
use Rattle.restore.proofs.form_restoring.take_lines.Given as goal

abbrev pub invariant-loop-restorer : goal.invariant-loop-restorer
invariant-loop-restorer g l = record {
  given : FormGiven (g.W.Writer.put_for l.writer) g.K.Sink.written g.K.Sink.failures (length l.initial.bits) (prepend_known l.initial.lines.rest (g.S.Source.to_come l.initial.source)) (prepend_known l.lines.rest (g.S.Source.to_come l.source)) l.initial.sink l.sink l.initial.pen l.pen l.initial.judge l.judge l.initial.restorer l.restorer;
  width : length l.bits ≡ input_count l.restorer.circuit;
  as_many : length l.bits ≡ length l.initial.bits;
  well : l.pen.answer ≡ Ok tt;
  writes : (text : List ℕ) × WritesText g.K.Sink.written g.K.Sink.failures l.initial.sink l.sink l.initial.pen l.pen text;
  read : g.S.Source.failures l.source ≡ g.S.Source.failures l.initial.source;
}

abbrev pub decreases-loop-restorer : goal.decreases-loop-restorer
decreases-loop-restorer g l = lines_left l.lines.rest (g.S.Source.calls_left l.source)
