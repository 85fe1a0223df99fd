use Rattle.std.proofs.Common.{ℕ, List, subst}
use Rattle.std.specs.Io.KnownBytes.{Appends}
use Rattle.base.specs.Device.{AppendsBeginning}
use Rattle.std.proofs.lemmas.Option.{IfSome_then}
use Rattle.restore.specs.Answers.{form_lines_put, IsRestoredForm}
use Rattle.restore.specs.FormWitness.{form_restored_text, FormJudges}
use Rattle.restore.specs.Putting.{as_it_is}
use Rattle.restore.proofs.FormWitnessLemmas.{as_they_are}
use Rattle.restore.proofs.form_restoring.restore_form.Goals as goal

pub returns-in-Ok-clause-judged : goal.returns-in-Ok-clause-judged
returns-in-Ok-clause-judged g c =
    IfSome_then (g.S.Source.to_come c.args.source.now) {P = λ (text : List ℕ). IsRestoredForm as_it_is c.args.circuit.now c.args.choice c.args.form.now (g.K.Sink.written c.args.sink.now) (g.K.Sink.written c.restore_form_with.new.sink) text c.in-Ok.told} {Q = λ (text : List ℕ). FormJudges c.args.circuit.now c.args.choice c.args.form.now text c.in-Ok.told.judgement} c.in-Ok.ensures.restores (λ text t. t.judged)

pub returns-in-Ok-clause-written : goal.returns-in-Ok-clause-written
returns-in-Ok-clause-written g c =
    IfSome_then (g.S.Source.to_come c.args.source.now) {P = λ (text : List ℕ). IsRestoredForm as_it_is c.args.circuit.now c.args.choice c.args.form.now (g.K.Sink.written c.args.sink.now) (g.K.Sink.written c.restore_form_with.new.sink) text c.in-Ok.told} {Q = λ (text : List ℕ). Appends (g.K.Sink.written c.args.sink.now) (g.K.Sink.written c.restore_form_with.new.sink) (form_restored_text c.args.circuit.now c.args.choice c.args.form.now text)} c.in-Ok.ensures.restores (λ text t. subst (Appends (g.K.Sink.written c.args.sink.now) (g.K.Sink.written c.restore_form_with.new.sink)) (as_they_are c.args.circuit.now c.args.choice c.args.form.now text) t.written)

pub returns-in-Err-clause-beginning : goal.returns-in-Err-clause-beginning
returns-in-Err-clause-beginning g c =
    IfSome_then (g.S.Source.to_come c.args.source.now) {P = λ (text : List ℕ). AppendsBeginning (g.K.Sink.written c.args.sink.now) (g.K.Sink.written c.restore_form_with.new.sink) (form_lines_put as_it_is c.args.circuit.now c.args.choice c.args.form.now text)} {Q = λ (text : List ℕ). AppendsBeginning (g.K.Sink.written c.args.sink.now) (g.K.Sink.written c.restore_form_with.new.sink) (form_restored_text c.args.circuit.now c.args.choice c.args.form.now text)} c.in-Err.ensures.restores (λ text t. subst (AppendsBeginning (g.K.Sink.written c.args.sink.now) (g.K.Sink.written c.restore_form_with.new.sink)) (as_they_are c.args.circuit.now c.args.choice c.args.form.now text) t)
