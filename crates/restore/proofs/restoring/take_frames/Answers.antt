use Rattle.std.proofs.Common.{rules, ◌≡◌, Bool, [], None, Ok, Err, refl, sym, subst, ◌∙◌}
use Rattle.std.specs.Io.KnownBytes.{prepend_known}
use Rattle.base.proofs.PenLemmas.{well_counts, fails_counts, writes_none, writes_then}
use Rattle.restore.specs.declared.fault.RestoreFault.{RestoreFault}
use Rattle.restore.specs.Answers.{CountsRestoreWhy}
use Rattle.restore.specs.Steps.{StepsOn}
use Rattle.base.proofs.DeviceLemmas.{not_ok}
use Rattle.restore.proofs.RestoringLemmas.{frames_nothing, frames_more, frames_all, frames_failed, frames_unwritten}
use Rattle.restore.proofs.restoring.take_frames.Goals as goal

pub loop-restorer-init : goal.loop-restorer-init
loop-restorer-init g c = record {
  frames = frames_nothing _ _ _ _ _ _ _ _ c.requires.unread;
  width = c.requires.width;
  well = c.requires.well;
  writes = ([], writes_none);
  read = refl;
}

pub loop-restorer-preserved : goal.loop-restorer-preserved
loop-restorer-preserved g c = record {
  frames = frames_more (g.W.Writer.put_for c.args.writer.now) g.K.Sink.written g.K.Sink.failures (g.S.Source.to_come c.args.source.now) (prepend_known c.loop-restorer.reader.rest (g.S.Source.to_come c.loop-restorer.source)) (prepend_known c.advance.new.self.rest (g.S.Source.to_come c.advance.new.source)) c.args.sink.now c.loop-restorer.sink c.args.pen.now c.loop-restorer.pen c.args.reader.now c.loop-restorer.reader c.advance.new.self c.args.restorer.now c.loop-restorer.restorer c.loop-restorer.invariant.frames c.take_frame.new.sink c.take_frame.new.pen c.take_frame.new.self c.frame.result.now c.frame.ensures (subst (λ (b : Bool). StepsOn (Ok b) c.loop-restorer.reader c.advance.new.self (prepend_known c.loop-restorer.reader.rest (g.S.Source.to_come c.loop-restorer.source)) (prepend_known c.advance.new.self.rest (g.S.Source.to_come c.advance.new.source))) c.if-branch.true c.in_ok-advance.ensures.steps) c.take_frame.ensures.takes;
  width = search rules;
  well = c.in_ok-written.ensures.ok;
  writes = (_, writes_then c.loop-restorer.invariant.writes.1 c.take_frame.ensures.writes.1);
  read = c.in_ok-advance.ensures.counted ∙ c.loop-restorer.invariant.read;
}

pub returns-clause-takes : goal.returns-clause-takes
returns-clause-takes g c = frames_all (g.W.Writer.put_for c.args.writer.now) g.K.Sink.written g.K.Sink.failures (g.S.Source.to_come c.args.source.now) (prepend_known c.loop-restorer.reader.rest (g.S.Source.to_come c.loop-restorer.source)) (prepend_known c.advance.new.self.rest (g.S.Source.to_come c.advance.new.source)) c.args.sink.now c.loop-restorer.sink c.args.pen.now c.loop-restorer.pen c.args.reader.now c.loop-restorer.reader c.advance.new.self c.args.restorer.now c.loop-restorer.restorer c.loop-restorer.invariant.frames (subst (λ (b : Bool). StepsOn (Ok b) c.loop-restorer.reader c.advance.new.self (prepend_known c.loop-restorer.reader.rest (g.S.Source.to_come c.loop-restorer.source)) (prepend_known c.advance.new.self.rest (g.S.Source.to_come c.advance.new.source))) c.if-branch.false c.in_ok-advance.ensures.steps)

pub returns-clause-writes : goal.returns-clause-writes
returns-clause-writes g c = c.loop-restorer.invariant.writes

pub returns-clause-counted : goal.returns-clause-counted
returns-clause-counted g c = (c.in_ok-advance.ensures.counted ∙ c.loop-restorer.invariant.read, well_counts c.requires.well c.loop-restorer.invariant.writes.1 c.loop-restorer.invariant.well)

pub returns-in_err-advance-clause-takes : goal.returns-in_err-advance-clause-takes
returns-in_err-advance-clause-takes g c =
    let same : c.from_residual.result ≡ Err c.in_err-advance.field-0.0 = search rules in
    rw same (frames_failed (g.W.Writer.put_for c.args.writer.now) g.K.Sink.written g.K.Sink.failures (g.S.Source.to_come c.args.source.now) (prepend_known c.loop-restorer.reader.rest (g.S.Source.to_come c.loop-restorer.source)) (prepend_known c.advance.new.self.rest (g.S.Source.to_come c.advance.new.source)) c.args.sink.now c.loop-restorer.sink c.args.pen.now c.loop-restorer.pen c.args.reader.now c.loop-restorer.reader c.advance.new.self c.args.restorer.now c.loop-restorer.restorer c.loop-restorer.invariant.frames c.in_err-advance.field-0.0 c.in_err-advance.ensures.steps)

pub returns-in_err-written-clause-takes : goal.returns-in_err-written-clause-takes
returns-in_err-written-clause-takes g c =
    let same : c.from_residual-in_err-written.result ≡ Err c.in_err-written.field-0.0 = search rules in
    rw same (frames_unwritten (g.W.Writer.put_for c.args.writer.now) g.K.Sink.written g.K.Sink.failures (g.S.Source.to_come c.args.source.now) (prepend_known c.advance.new.self.rest (g.S.Source.to_come c.advance.new.source)) None c.args.sink.now c.take_frame.new.sink c.args.pen.now c.take_frame.new.pen c.args.reader.now c.advance.new.self c.advance.new.self c.args.restorer.now c.take_frame.new.self (frames_more (g.W.Writer.put_for c.args.writer.now) g.K.Sink.written g.K.Sink.failures (g.S.Source.to_come c.args.source.now) (prepend_known c.loop-restorer.reader.rest (g.S.Source.to_come c.loop-restorer.source)) (prepend_known c.advance.new.self.rest (g.S.Source.to_come c.advance.new.source)) c.args.sink.now c.loop-restorer.sink c.args.pen.now c.loop-restorer.pen c.args.reader.now c.loop-restorer.reader c.advance.new.self c.args.restorer.now c.loop-restorer.restorer c.loop-restorer.invariant.frames c.take_frame.new.sink c.take_frame.new.pen c.take_frame.new.self c.frame.result.now c.frame.ensures (subst (λ (b : Bool). StepsOn (Ok b) c.loop-restorer.reader c.advance.new.self (prepend_known c.loop-restorer.reader.rest (g.S.Source.to_come c.loop-restorer.source)) (prepend_known c.advance.new.self.rest (g.S.Source.to_come c.advance.new.source))) c.if-branch.true c.in_ok-advance.ensures.steps) c.take_frame.ensures.takes) c.in_err-written.field-0.0 c.in_err-written.ensures.err.1)

pub returns-in_err-written-clause-writes : goal.returns-in_err-written-clause-writes
returns-in_err-written-clause-writes g c = (_, writes_then c.loop-restorer.invariant.writes.1 c.take_frame.ensures.writes.1)

pub returns-in_err-written-clause-counted : goal.returns-in_err-written-clause-counted
returns-in_err-written-clause-counted g c =
    let same : c.from_residual-in_err-written.result ≡ Err c.in_err-written.field-0.0 = search rules in
    rw same (subst (λ (e : RestoreFault). CountsRestoreWhy e.why (g.S.Source.failures c.args.source.now) (g.S.Source.failures c.advance.new.source) (g.K.Sink.failures c.args.sink.now) (g.K.Sink.failures c.take_frame.new.sink)) (sym c.in_err-written.ensures.err.1)
    (c.in_ok-advance.ensures.counted ∙ c.loop-restorer.invariant.read, fails_counts c.requires.well (writes_then c.loop-restorer.invariant.writes.1 c.take_frame.ensures.writes.1) (not_ok c.in_err-written.ensures.err.0)))
