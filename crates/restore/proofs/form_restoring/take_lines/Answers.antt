use Rattle.std.proofs.Common.{rules, ℕ, Bool, List, [], ◌∷◌, ◌++◌, Ok, length, refl, sym, subst, ◌∙◌}
use Rattle.std.specs.Io.KnownBytes.{prepend_known, Consumes}
use Rattle.base.specs.Held.{Advances}
use Rattle.base.proofs.PenLemmas.{writes_none, writes_then}
use Rattle.restore.proofs.FormTakeLemmas.{form_nothing, form_more, form_kept}
use Rattle.restore.proofs.form_restoring.take_lines.Goals as goal

pub loop-restorer-init : goal.loop-restorer-init
loop-restorer-init g c = record {
  given = form_nothing (g.W.Writer.put_for c.args.writer.now) g.K.Sink.written g.K.Sink.failures (length c.args.bits.now) _ _ _ _ _;
  width = c.requires.width;
  as_many = refl;
  well = c.requires.well;
  writes = ([], writes_none);
  read = refl;
}

pub loop-restorer-preserved : goal.loop-restorer-preserved
loop-restorer-preserved g c =
    let moved = (subst (λ (b : Bool). Advances (Ok b) c.loop-restorer.lines c.advance.new.self (g.S.Source.to_come c.loop-restorer.source) (g.S.Source.to_come c.advance.new.source)) c.in-Ok-true.field-0-test c.in-Ok-true.ensures.bytes) in
    record {
      given =
          form_more (g.W.Writer.put_for c.args.writer.now) g.K.Sink.written g.K.Sink.failures (length c.args.bits.now) (prepend_known c.args.lines.now.rest (g.S.Source.to_come c.args.source.now)) (prepend_known c.loop-restorer.lines.rest (g.S.Source.to_come c.loop-restorer.source)) (prepend_known c.advance.new.self.rest (g.S.Source.to_come c.advance.new.source)) c.args.sink.now c.loop-restorer.sink c.args.pen.now c.loop-restorer.pen c.args.judge.now c.loop-restorer.judge c.args.restorer.now c.loop-restorer.restorer c.loop-restorer.invariant.given c.take_later_line.new.sink c.take_later_line.new.pen c.take_later_line.new.judge c.take_later_line.new.restorer c.line.result.now (subst (λ (l : List ℕ). Consumes (prepend_known c.loop-restorer.lines.rest (g.S.Source.to_come c.loop-restorer.source)) (prepend_known c.advance.new.self.rest (g.S.Source.to_come c.advance.new.source)) (l ++ 10 ∷ [])) (sym c.line.ensures) moved.1)
          (λ start from d first j text wide h. c.take_later_line.ensures.takes start from d first j text (wide ∙ sym c.loop-restorer.invariant.as_many) h);
      width = search rules;
      as_many = c.take_later_line.ensures.as_many ∙ c.loop-restorer.invariant.as_many;
      well = c.in_ok-written-in-Ok-true.ensures.ok;
      writes = (_, writes_then c.loop-restorer.invariant.writes.1 c.take_later_line.ensures.writes.1);
      read = c.in-Ok-true.ensures.counted ∙ c.loop-restorer.invariant.read;
    }

pub returns-in_err-written-in-Ok-true-clause-takes : goal.returns-in_err-written-in-Ok-true-clause-takes
returns-in_err-written-in-Ok-true-clause-takes g c =
    let moved = (subst (λ (b : Bool). Advances (Ok b) c.loop-restorer.lines c.advance.new.self (g.S.Source.to_come c.loop-restorer.source) (g.S.Source.to_come c.advance.new.source)) c.in-Ok-true.field-0-test c.in-Ok-true.ensures.bytes) in
    form_more (g.W.Writer.put_for c.args.writer.now) g.K.Sink.written g.K.Sink.failures (length c.args.bits.now) (prepend_known c.args.lines.now.rest (g.S.Source.to_come c.args.source.now)) (prepend_known c.loop-restorer.lines.rest (g.S.Source.to_come c.loop-restorer.source)) (prepend_known c.advance.new.self.rest (g.S.Source.to_come c.advance.new.source)) c.args.sink.now c.loop-restorer.sink c.args.pen.now c.loop-restorer.pen c.args.judge.now c.loop-restorer.judge c.args.restorer.now c.loop-restorer.restorer c.loop-restorer.invariant.given c.take_later_line.new.sink c.take_later_line.new.pen c.take_later_line.new.judge c.take_later_line.new.restorer c.line.result.now (subst (λ (l : List ℕ). Consumes (prepend_known c.loop-restorer.lines.rest (g.S.Source.to_come c.loop-restorer.source)) (prepend_known c.advance.new.self.rest (g.S.Source.to_come c.advance.new.source)) (l ++ 10 ∷ [])) (sym c.line.ensures) moved.1)
    (λ start from d first j text wide h. c.take_later_line.ensures.takes start from d first j text (wide ∙ sym c.loop-restorer.invariant.as_many) h)

pub returns-in-Ok-false-clause-takes : goal.returns-in-Ok-false-clause-takes
returns-in-Ok-false-clause-takes g c = form_kept (g.W.Writer.put_for c.args.writer.now) g.K.Sink.written g.K.Sink.failures (length c.args.bits.now) (prepend_known c.args.lines.now.rest (g.S.Source.to_come c.args.source.now)) (prepend_known c.loop-restorer.lines.rest (g.S.Source.to_come c.loop-restorer.source)) (prepend_known c.advance.new.self.rest (g.S.Source.to_come c.advance.new.source)) c.args.sink.now c.loop-restorer.sink c.args.pen.now c.loop-restorer.pen c.args.judge.now c.loop-restorer.judge c.args.restorer.now c.loop-restorer.restorer c.loop-restorer.invariant.given (subst (λ (b : Bool). Advances (Ok b) c.loop-restorer.lines c.advance.new.self (g.S.Source.to_come c.loop-restorer.source) (g.S.Source.to_come c.advance.new.source)) c.in-Ok-false.field-0-test c.in-Ok-false.ensures.bytes).1.0

pub returns-in-Ok-false-clause-rest : goal.returns-in-Ok-false-clause-rest
returns-in-Ok-false-clause-rest g c = (subst (λ (b : Bool). Advances (Ok b) c.loop-restorer.lines c.advance.new.self (g.S.Source.to_come c.loop-restorer.source) (g.S.Source.to_come c.advance.new.source)) c.in-Ok-false.field-0-test c.in-Ok-false.ensures.bytes).0.0

pub returns-in-Err-clause-takes : goal.returns-in-Err-clause-takes
returns-in-Err-clause-takes g c = form_kept (g.W.Writer.put_for c.args.writer.now) g.K.Sink.written g.K.Sink.failures (length c.args.bits.now) (prepend_known c.args.lines.now.rest (g.S.Source.to_come c.args.source.now)) (prepend_known c.loop-restorer.lines.rest (g.S.Source.to_come c.loop-restorer.source)) (prepend_known c.advance.new.self.rest (g.S.Source.to_come c.advance.new.source)) c.args.sink.now c.loop-restorer.sink c.args.pen.now c.loop-restorer.pen c.args.judge.now c.loop-restorer.judge c.args.restorer.now c.loop-restorer.restorer c.loop-restorer.invariant.given c.in-Err.ensures.bytes.0

pub returns-in_err-written-in-Ok-true-clause-writes : goal.returns-in_err-written-in-Ok-true-clause-writes
returns-in_err-written-in-Ok-true-clause-writes g c = (_, writes_then c.loop-restorer.invariant.writes.1 c.take_later_line.ensures.writes.1)
