use Rattle.std.proofs.Common.{rules, ◌≡◌, Err, Result, sym, subst, ◌∙◌}
use Rattle.base.proofs.PenLemmas.{writes_then}
use Rattle.engine_form.specs.EngineForm.{input_count}
use Rattle.restore.specs.declared.fault.RestoreFault.{RestoreFault}
use Rattle.restore.specs.Answers.{CountsRestore, CountsRestoreWhy}
use Rattle.restore.specs.Putting.{TakesAll}
use Rattle.restore.specs.Reading.{read_found}
use Rattle.base.proofs.DeviceLemmas.{on_ok, on_err, ok_counts, err_counts}
use Rattle.restore.proofs.RestoringLemmas.{all_text, told_all, text_taken, ends_apart, ends_faulty, ends_unwritten, faulty_text}
use Rattle.restore.proofs.restoring.end.Goals as goal

pub returns-in_ok-written-in-Ok-clause-ends : goal.returns-in_ok-written-in-Ok-clause-ends
returns-in_ok-written-in-Ok-clause-ends g c start from first circuit k text kept well valid below fresh all =
    let takes = subst (λ (r : Result (Unit {0}) RestoreFault). TakesAll r (g.W.Writer.put_for c.args.writer.now) g.K.Sink.written g.K.Sink.failures start c.args.sink.now from c.args.pen.now first c.args.restorer.now (read_found (input_count circuit) text)) c.in-Ok.is all in
    let w = c.finish.ensures start from _ kept well (writes_then takes.1.writes c.put_end.ensures) in
    rw c.told.ensures (told_all (g.W.Writer.put_for c.args.writer.now) g.K.Sink.written g.K.Sink.failures start c.args.sink.now from c.args.pen.now first c.args.restorer.now circuit k text kept well valid below fresh takes.0 takes.1 _ (rw (sym (all_text (g.W.Writer.put_for c.args.writer.now) g.K.Sink.written g.K.Sink.failures start c.args.sink.now from c.args.pen.now first c.args.restorer.now circuit k text kept well valid below fresh takes.0 takes.1)) (on_ok c.in_ok-written-in-Ok.ensures.ok w.ok)))

pub returns-in_err-written-in-Ok-clause-ends : goal.returns-in_err-written-in-Ok-clause-ends
returns-in_err-written-in-Ok-clause-ends g c start from first circuit k text kept well valid below fresh all =
    let takes = subst (λ (r : Result (Unit {0}) RestoreFault). TakesAll r (g.W.Writer.put_for c.args.writer.now) g.K.Sink.written g.K.Sink.failures start c.args.sink.now from c.args.pen.now first c.args.restorer.now (read_found (input_count circuit) text)) c.in-Ok.is all in
    let same : c.from_residual.result ≡ Err c.in_err-written-in-Ok.field-0.0 = search rules in
    let w = c.finish.ensures start from _ kept well (writes_then takes.1.writes c.put_end.ensures) in
    rw same (ends_unwritten (g.W.Writer.put_for c.args.writer.now) g.K.Sink.written g.K.Sink.failures start c.args.sink.now from c.args.pen.now first c.args.restorer.now circuit k text kept well valid below fresh c.in_err-written-in-Ok.field-0.0 _ _ c.in_err-written-in-Ok.ensures.err.1 (all_text (g.W.Writer.put_for c.args.writer.now) g.K.Sink.written g.K.Sink.failures start c.args.sink.now from c.args.pen.now first c.args.restorer.now circuit k text kept well valid below fresh takes.0 takes.1) (on_err c.finish.result c.in_err-written-in-Ok.ensures.err.0 w.err))

pub returns-in_ok-written-in-Ok-clause-counted : goal.returns-in_ok-written-in-Ok-clause-counted
returns-in_ok-written-in-Ok-clause-counted g c start from text old new kept well writes counted =
    let w = c.finish.ensures start from _ kept well (writes_then writes c.put_end.ensures) in
    ((subst (λ (r : Result (Unit {0}) RestoreFault). CountsRestore r old new (g.K.Sink.failures start) (g.K.Sink.failures c.args.sink.now)) c.in-Ok.is counted).0, ok_counts _ _ c.in_ok-written-in-Ok.ensures.ok w.failures)

pub returns-in_err-written-in-Ok-clause-counted : goal.returns-in_err-written-in-Ok-clause-counted
returns-in_err-written-in-Ok-clause-counted g c start from text old new kept well writes counted =
    let same : c.from_residual.result ≡ Err c.in_err-written-in-Ok.field-0.0 = search rules in
    let w = c.finish.ensures start from _ kept well (writes_then writes c.put_end.ensures) in
    rw same (subst (λ (e : RestoreFault). CountsRestoreWhy e.why old new (g.K.Sink.failures start) (g.K.Sink.failures c.finish.new.sink)) (sym c.in_err-written-in-Ok.ensures.err.1)
    ((subst (λ (r : Result (Unit {0}) RestoreFault). CountsRestore r old new (g.K.Sink.failures start) (g.K.Sink.failures c.args.sink.now)) c.in-Ok.is counted).0, err_counts c.finish.result _ _ c.in_err-written-in-Ok.ensures.err.0 w.failures))

pub returns-in_ok-written-in-Err-clause-ends : goal.returns-in_ok-written-in-Err-clause-ends
returns-in_ok-written-in-Err-clause-ends g c start from first circuit k text kept well valid below fresh all =
    let takes = subst (λ (r : Result (Unit {0}) RestoreFault). TakesAll r (g.W.Writer.put_for c.args.writer.now) g.K.Sink.written g.K.Sink.failures start c.args.sink.now from c.args.pen.now first c.args.restorer.now (read_found (input_count circuit) text)) c.in-Err.is all in
    let of = sym c.is_of_text.ensures ∙ c.if-is_of_text.true in
    let w = c.finish-then-is_of_text.ensures start from _ kept well (text_taken (g.W.Writer.put_for c.args.writer.now) g.K.Sink.written g.K.Sink.failures start c.args.sink.now from c.args.pen.now first c.args.restorer.now circuit k text kept well valid below fresh c.in-Err.fault of takes).1.writes in
    ends_faulty (g.W.Writer.put_for c.args.writer.now) g.K.Sink.written g.K.Sink.failures start c.args.sink.now from c.args.pen.now first c.args.restorer.now circuit k text kept well valid below fresh c.in-Err.fault c.finish-then-is_of_text.new.sink of takes (on_ok c.in_ok-written-in-Err.ensures.ok w.ok)

pub returns-in_err-written-in-Err-clause-ends : goal.returns-in_err-written-in-Err-clause-ends
returns-in_err-written-in-Err-clause-ends g c start from first circuit k text kept well valid below fresh all =
    let takes = subst (λ (r : Result (Unit {0}) RestoreFault). TakesAll r (g.W.Writer.put_for c.args.writer.now) g.K.Sink.written g.K.Sink.failures start c.args.sink.now from c.args.pen.now first c.args.restorer.now (read_found (input_count circuit) text)) c.in-Err.is all in
    let of = sym c.is_of_text.ensures ∙ c.if-is_of_text.true in
    let same : c.from_residual-in_err-written-in-Err.result ≡ Err c.in_err-written-in-Err.field-0.0 = search rules in
    let taken = text_taken (g.W.Writer.put_for c.args.writer.now) g.K.Sink.written g.K.Sink.failures start c.args.sink.now from c.args.pen.now first c.args.restorer.now circuit k text kept well valid below fresh c.in-Err.fault of takes in
    let w = c.finish-then-is_of_text.ensures start from _ kept well taken.1.writes in
    rw same (ends_unwritten (g.W.Writer.put_for c.args.writer.now) g.K.Sink.written g.K.Sink.failures start c.args.sink.now from c.args.pen.now first c.args.restorer.now circuit k text kept well valid below fresh c.in_err-written-in-Err.field-0.0 _ _ c.in_err-written-in-Err.ensures.err.1 (faulty_text (g.W.Writer.put_for c.args.writer.now) g.K.Sink.written g.K.Sink.failures start c.args.sink.now from c.args.pen.now first c.args.restorer.now circuit k text kept well valid below fresh c.in-Err.fault taken.0) (on_err c.finish-then-is_of_text.result c.in_err-written-in-Err.ensures.err.0 w.err))

pub returns-else-is_of_text-clause-ends : goal.returns-else-is_of_text-clause-ends
returns-else-is_of_text-clause-ends g c start from first circuit k text kept well valid below fresh all =
    ends_apart (g.W.Writer.put_for c.args.writer.now) g.K.Sink.written g.K.Sink.failures start c.args.sink.now from c.args.pen.now first c.args.restorer.now circuit k text kept well valid below fresh c.in-Err.fault (sym c.is_of_text.ensures ∙ c.if-is_of_text.false) (subst (λ (r : Result (Unit {0}) RestoreFault). TakesAll r (g.W.Writer.put_for c.args.writer.now) g.K.Sink.written g.K.Sink.failures start c.args.sink.now from c.args.pen.now first c.args.restorer.now (read_found (input_count circuit) text)) c.in-Err.is all)
