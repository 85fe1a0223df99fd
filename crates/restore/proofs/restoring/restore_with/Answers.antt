use Rattle.std.proofs.Common.{rules, ◌≡◌, List, [], ℕ, false, Err, refl, subst}
use Rattle.std.proofs.lemmas.Option.{IfSome_then}
use Rattle.restore.specs.declared.fault.RestoreFault.{RestoreFault}
use Rattle.restore.specs.declared.fault.RestoreWhy.TheVariants as why
use Rattle.restore.specs.Answers.{lines_put, Restores}
use Rattle.restore.specs.Faults.{is_of_text}
use Rattle.restore.specs.Plays.{Play}
use Rattle.restore.specs.Putting.{HasTaken, TakesAll}
use Rattle.restore.specs.Reading.{Found}
use Rattle.restore.specs.Steps.{frames_to_come}
use Rattle.base.specs.declared.pen.Pen.{Pen}
use Rattle.restore.proofs.TakenLemmas.{nothing_taken}
use Rattle.restore.proofs.RestoringLemmas.{nothing_written, reads_at_start, told_kept, ok_kept}
use Rattle.restore.proofs.restoring.restore_with.Goals as goal

pub returns-in_err-reader-clause-restores : goal.returns-in_err-reader-clause-restores
returns-in_err-reader-clause-restores g c =
    let same : c.from_residual.result ≡ Err (record { line = 0; why = why.NoMemory }) = search rules in
    rw same (nothing_written _ _ (lines_put (g.W.Writer.put_for c.args.writer.now) c.args.circuit.now c.args.claim))

pub returns-in_err-restorer-clause-restores : goal.returns-in_err-restorer-clause-restores
returns-in_err-restorer-clause-restores g c =
    let same : c.from_residual-in_err-restorer.result ≡ Err (record { line = 0; why = why.NoMemory }) = search rules in
    rw same (nothing_written _ _ (lines_put (g.W.Writer.put_for c.args.writer.now) c.args.circuit.now c.args.claim))

pub returns-clause-restores : goal.returns-clause-restores
returns-clause-restores g c =
    IfSome_then (g.S.Source.to_come c.args.source.now) {P = λ (text : List ℕ). (start : g.row.K.Denot) (from : Pen) (first : Play) → HasTaken (g.W.Writer.put_for c.args.writer.now) g.K.Sink.written g.K.Sink.failures start c.args.sink.now from c.new-pen.result first [] c.in_ok-restorer.restorer
    → TakesAll c.take_frames-told.result (g.W.Writer.put_for c.args.writer.now) g.K.Sink.written g.K.Sink.failures start c.take_frames-told.new.sink from c.take_frames-told.new.pen first c.take_frames-told.new.restorer (frames_to_come c.in_ok-reader.reader text)} {Q = Restores c.end.result (g.W.Writer.put_for c.args.writer.now) c.args.circuit.now c.args.claim (g.K.Sink.written c.args.sink.now) (g.K.Sink.written c.end.new.sink)} c.take_frames-told.ensures.takes (λ text t.
    c.end.ensures.ends c.args.sink.now c.new-pen.result c.in_ok-restorer.restorer c.args.circuit.now c.args.claim text c.new-pen.ensures.kept c.new-pen.ensures.well c.inputs-inputs.ensures.valid c.requires c.in_ok-restorer.ensures
    (subst (λ (found : Found). TakesAll c.take_frames-told.result (g.W.Writer.put_for c.args.writer.now) g.K.Sink.written g.K.Sink.failures c.args.sink.now c.take_frames-told.new.sink c.new-pen.result c.take_frames-told.new.pen c.in_ok-restorer.restorer c.take_frames-told.new.restorer found)
    (reads_at_start c.args.circuit.now c.in_ok-reader.reader _ text c.in_ok-reader.ensures.0 c.input_count.ensures.count c.in_ok-reader.ensures.1.0) (t c.args.sink.now c.new-pen.result c.in_ok-restorer.restorer nothing_taken)))

pub returns-clause-counted : goal.returns-clause-counted
returns-clause-counted g c =
    c.end.ensures.counted c.args.sink.now c.new-pen.result _ _ _ c.new-pen.ensures.kept c.new-pen.ensures.well c.take_frames-told.ensures.writes.1 c.take_frames-told.ensures.counted

pub returns-clause-apart : goal.returns-clause-apart
returns-clause-apart g c = told_kept (λ (e : RestoreFault). is_of_text e.why ≡ false → e.line ≡ 0) c.take_frames-told.result c.end.result c.take_frames-told.ensures.line (λ h. refl) c.end.ensures.same

pub returns-clause-end : goal.returns-clause-end
returns-clause-end g c = ok_kept _ c.take_frames-told.result c.end.result c.take_frames-told.ensures.end c.end.ensures.right
