use Rattle.std.proofs.Common.{ℕ, Bool, List, [], ◌∷◌, ◌++◌, Ok, refl, sym, subst, ◌∙◌}
use Rattle.std.specs.Io.KnownBytes.{prepend_known, Consumes}
use Rattle.base.specs.Held.{Advances}
use Rattle.base.proofs.PenLemmas.{writes_none, writes_then}
use Rattle.unfit.proofs.StepLemmas.{takes_none, takes_more, takes_kept}
use Rattle.unfit.proofs.unfitting.take_lines.Goals as goal

pub loop-judge-init : goal.loop-judge-init
loop-judge-init g c = record { takes = takes_none g.K.Sink.written g.K.Sink.failures c.args.wide.now _ _ _ _ _; well = c.requires; writes = ([], writes_none); read = refl }

pub loop-judge-preserved : goal.loop-judge-preserved
loop-judge-preserved g c =
    let moved = (subst (λ (b : Bool). Advances (Ok b) c.loop-judge.lines c.advance.new.self (g.S.Source.to_come c.loop-judge.source) (g.S.Source.to_come c.advance.new.source)) c.in-Ok-true.field-0-test c.in-Ok-true.ensures.bytes) in
    record {
      takes =
          takes_more g.K.Sink.written g.K.Sink.failures c.args.wide.now (prepend_known c.args.lines.now.rest (g.S.Source.to_come c.args.source.now)) (prepend_known c.loop-judge.lines.rest (g.S.Source.to_come c.loop-judge.source)) (prepend_known c.advance.new.self.rest (g.S.Source.to_come c.advance.new.source)) c.args.sink.now c.loop-judge.sink c.args.pen.now c.loop-judge.pen c.args.judge.now c.loop-judge.judge c.args.frame.now c.loop-judge.frame c.loop-judge.invariant.takes c.take_line.new.sink c.take_line.new.pen c.take_line.new.judge c.take_line.new.frame c.line.result.now (subst (λ (l : List ℕ). Consumes (prepend_known c.loop-judge.lines.rest (g.S.Source.to_come c.loop-judge.source)) (prepend_known c.advance.new.self.rest (g.S.Source.to_come c.advance.new.source)) (l ++ 10 ∷ [])) (sym c.line.ensures) moved.1)
          c.take_line.ensures.takes;
      well = c.in_ok-written-in-Ok-true.ensures.ok;
      writes = (_, writes_then c.loop-judge.invariant.writes.1 c.take_line.ensures.writes.1);
      read = c.in-Ok-true.ensures.counted ∙ c.loop-judge.invariant.read;
    }

pub returns-in_err-written-in-Ok-true-clause-takes : goal.returns-in_err-written-in-Ok-true-clause-takes
returns-in_err-written-in-Ok-true-clause-takes g c =
    let moved = (subst (λ (b : Bool). Advances (Ok b) c.loop-judge.lines c.advance.new.self (g.S.Source.to_come c.loop-judge.source) (g.S.Source.to_come c.advance.new.source)) c.in-Ok-true.field-0-test c.in-Ok-true.ensures.bytes) in
    takes_more g.K.Sink.written g.K.Sink.failures c.args.wide.now (prepend_known c.args.lines.now.rest (g.S.Source.to_come c.args.source.now)) (prepend_known c.loop-judge.lines.rest (g.S.Source.to_come c.loop-judge.source)) (prepend_known c.advance.new.self.rest (g.S.Source.to_come c.advance.new.source)) c.args.sink.now c.loop-judge.sink c.args.pen.now c.loop-judge.pen c.args.judge.now c.loop-judge.judge c.args.frame.now c.loop-judge.frame c.loop-judge.invariant.takes c.take_line.new.sink c.take_line.new.pen c.take_line.new.judge c.take_line.new.frame c.line.result.now (subst (λ (l : List ℕ). Consumes (prepend_known c.loop-judge.lines.rest (g.S.Source.to_come c.loop-judge.source)) (prepend_known c.advance.new.self.rest (g.S.Source.to_come c.advance.new.source)) (l ++ 10 ∷ [])) (sym c.line.ensures) moved.1)
    c.take_line.ensures.takes

pub returns-in-Ok-false-clause-takes : goal.returns-in-Ok-false-clause-takes
returns-in-Ok-false-clause-takes g c =
    takes_kept g.K.Sink.written g.K.Sink.failures c.args.wide.now (prepend_known c.args.lines.now.rest (g.S.Source.to_come c.args.source.now)) (prepend_known c.loop-judge.lines.rest (g.S.Source.to_come c.loop-judge.source)) (prepend_known c.advance.new.self.rest (g.S.Source.to_come c.advance.new.source)) c.args.sink.now c.loop-judge.sink c.args.pen.now c.loop-judge.pen c.args.judge.now c.loop-judge.judge c.args.frame.now c.loop-judge.frame c.loop-judge.invariant.takes
    (subst (λ (b : Bool). Advances (Ok b) c.loop-judge.lines c.advance.new.self (g.S.Source.to_come c.loop-judge.source) (g.S.Source.to_come c.advance.new.source)) c.in-Ok-false.field-0-test c.in-Ok-false.ensures.bytes).1.0

pub returns-in-Ok-false-clause-rest : goal.returns-in-Ok-false-clause-rest
returns-in-Ok-false-clause-rest g c = (subst (λ (b : Bool). Advances (Ok b) c.loop-judge.lines c.advance.new.self (g.S.Source.to_come c.loop-judge.source) (g.S.Source.to_come c.advance.new.source)) c.in-Ok-false.field-0-test c.in-Ok-false.ensures.bytes).0.0

pub returns-in-Err-clause-takes : goal.returns-in-Err-clause-takes
returns-in-Err-clause-takes g c = takes_kept g.K.Sink.written g.K.Sink.failures c.args.wide.now (prepend_known c.args.lines.now.rest (g.S.Source.to_come c.args.source.now)) (prepend_known c.loop-judge.lines.rest (g.S.Source.to_come c.loop-judge.source)) (prepend_known c.advance.new.self.rest (g.S.Source.to_come c.advance.new.source)) c.args.sink.now c.loop-judge.sink c.args.pen.now c.loop-judge.pen c.args.judge.now c.loop-judge.judge c.args.frame.now c.loop-judge.frame c.loop-judge.invariant.takes c.in-Err.ensures.bytes.0

pub returns-in_err-written-in-Ok-true-clause-writes : goal.returns-in_err-written-in-Ok-true-clause-writes
returns-in_err-written-in-Ok-true-clause-writes g c = (_, writes_then c.loop-judge.invariant.writes.1 c.take_line.ensures.writes.1)
