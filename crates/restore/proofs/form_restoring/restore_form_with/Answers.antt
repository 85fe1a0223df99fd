use Rattle.std.proofs.Common.{rules, ◌≡◌, ℕ, List, ◌++◌, Err, sym, subst}
use Rattle.witness.specs.BitJudgements.{BitJudges}
use Rattle.restore.proofs.FormWitnessLemmas.{form_told}
use Rattle.restore.proofs.form_restoring.restore_form_with.Goals as goal

pub returns-in_err-restored-clause-restores : goal.returns-in_err-restored-clause-restores
returns-in_err-restored-clause-restores g c =
    let same : c.from_residual.result ≡ Err c.in_err-restored.field-0.0 = search rules in
    rw same c.in_err-restored.ensures.reads

pub returns-clause-restores : goal.returns-clause-restores
returns-clause-restores g c =
    rw c.told_of.ensures
    (form_told (g.W.Writer.put_for c.args.writer.now) c.args.circuit.now c.args.choice c.args.form.now c.take_all.new.judge c.take_all.new.lines.rest (g.S.Source.to_come c.args.source.now) (g.K.Sink.written c.args.sink.now) (g.K.Sink.written c.take_all.new.sink) c.in_ok-restored.restored c.finish.result c.bit_texts_read.ensures.said c.exactly_one_trace.ensures.exists c.exactly_one_bit_judgement.ensures.exists c.requires c.in_ok-restored.ensures.reads
    (λ text j valid stands judged. c.finish.ensures c.args.form.now text j valid stands (subst (λ (r : List ℕ). BitJudges c.args.form.now (text ++ r) j) (sym c.rest.ensures) judged)))
