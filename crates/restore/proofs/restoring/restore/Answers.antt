use Rattle.std.proofs.Common.{◌≡◌, ◌+◌, ℕ, List, None, Some, true, false, subst}
use Rattle.std.specs.Io.KnownBytes.{Appends}
use Rattle.base.specs.Device.{AppendsBeginning}
use Rattle.engine_form.specs.EngineForm.{input_count}
use Rattle.std.proofs.lemmas.Option.{IfSome_then}
use Rattle.witness.specs.declared.judgement.Judgement.TheVariants as judgement
use Rattle.witness.specs.Accepted.{BitAcceptsExactly}
use Rattle.witness.specs.BitJudgements.{BitJudges}
use Rattle.restore.specs.Accepted.{FindsAgain}
use Rattle.restore.specs.Answers.{IsRestored, IsRestoredBut}
use Rattle.restore.specs.Putting.{as_it_is}
use Rattle.restore.specs.Reading.{read_found}
use Rattle.restore.specs.Restored.{restored_text}
use Rattle.restore.proofs.RestoringLemmas.{as_they_are, but_of}
use Rattle.restore.proofs.restoring.restore.Goals as goal

-- ---- all was written

pub returns-in-Ok-clause-judged : goal.returns-in-Ok-clause-judged
returns-in-Ok-clause-judged g c =
    IfSome_then (g.S.Source.to_come c.args.source.now) {P = λ (text : List ℕ). IsRestored as_it_is c.args.circuit.now c.args.claim (g.K.Sink.written c.args.sink.now) (g.K.Sink.written c.restore_with.new.sink) text c.in-Ok.told} {Q = λ (text : List ℕ). BitJudges c.args.circuit.now (restored_text c.args.circuit.now c.args.claim text) c.in-Ok.told.judgement} c.in-Ok.ensures.restores (λ text t. t.judged)

pub returns-in-Ok-clause-right : goal.returns-in-Ok-clause-right
returns-in-Ok-clause-right g c =
    IfSome_then (g.S.Source.to_come c.args.source.now) {P = λ (text : List ℕ). IsRestored as_it_is c.args.circuit.now c.args.claim (g.K.Sink.written c.args.sink.now) (g.K.Sink.written c.restore_with.new.sink) text c.in-Ok.told} {Q = λ (text : List ℕ). (read_found (input_count c.args.circuit.now) text).fault ≡ None} c.in-Ok.ensures.restores (λ text t. t.right)

pub returns-in-Ok-clause-written : goal.returns-in-Ok-clause-written
returns-in-Ok-clause-written g c =
    IfSome_then (g.S.Source.to_come c.args.source.now) {P = λ (text : List ℕ). IsRestored as_it_is c.args.circuit.now c.args.claim (g.K.Sink.written c.args.sink.now) (g.K.Sink.written c.restore_with.new.sink) text c.in-Ok.told} {Q = λ (text : List ℕ). Appends (g.K.Sink.written c.args.sink.now) (g.K.Sink.written c.restore_with.new.sink) (restored_text c.args.circuit.now c.args.claim text)} c.in-Ok.ensures.restores (λ text t. subst (Appends (g.K.Sink.written c.args.sink.now) (g.K.Sink.written c.restore_with.new.sink)) (as_they_are c.args.circuit.now c.args.claim text) t.written)

pub returns-in-Ok-clause-accepted : goal.returns-in-Ok-clause-accepted
returns-in-Ok-clause-accepted g c =
    IfSome_then (g.S.Source.to_come c.args.source.now) {P = λ (text : List ℕ). BitJudges c.args.circuit.now (restored_text c.args.circuit.now c.args.claim text) c.in-Ok.told.judgement} {Q = λ (text : List ℕ). BitAcceptsExactly c.args.circuit.now (restored_text c.args.circuit.now c.args.claim text) c.in-Ok.told.judgement} (returns-in-Ok-clause-judged g c) (λ text judged. c.accepted_exactly.ensures c.args.circuit.now (restored_text c.args.circuit.now c.args.claim text) c.in-Ok.told.judgement c.inputs-inputs.ensures.valid judged)

pub returns-in-Ok-clause-found : goal.returns-in-Ok-clause-found
returns-in-Ok-clause-found g c =
    IfSome_then (g.S.Source.to_come c.args.source.now) {P = λ (text : List ℕ). BitJudges c.args.circuit.now (restored_text c.args.circuit.now c.args.claim text) c.in-Ok.told.judgement} {Q = λ (text : List ℕ). FindsAgain c.args.circuit.now c.args.claim text c.in-Ok.told.judgement} (returns-in-Ok-clause-judged g c) (λ text judged choice d given ws n form has is few trace at.
    c.exactly_one_bit_judgement.ensures.unique c.args.circuit.now (restored_text c.args.circuit.now c.args.claim text) c.in-Ok.told.judgement (judgement.Accepted (n + 1)) form.original judged
    (c.restored_text_is_accepted.ensures c.args.circuit.now choice c.args.claim d text given ws n form has c.requires is few trace at))

-- ---- faults

pub returns-in-Err-clause-faulty : goal.returns-in-Err-clause-faulty
returns-in-Err-clause-faulty g c of =
    IfSome_then (g.S.Source.to_come c.args.source.now) {P = IsRestoredBut true c.in-Err.fault as_it_is c.args.circuit.now c.args.claim (g.K.Sink.written c.args.sink.now) (g.K.Sink.written c.restore_with.new.sink)} {Q = λ (text : List ℕ). (read_found (input_count c.args.circuit.now) text).fault ≡ Some c.in-Err.fault} (but_of _ c.in-Err.fault _ _ _ _ _ true of c.in-Err.ensures.restores) (λ text t. t.0)

pub returns-in-Err-clause-before : goal.returns-in-Err-clause-before
returns-in-Err-clause-before g c of =
    IfSome_then (g.S.Source.to_come c.args.source.now) {P = IsRestoredBut true c.in-Err.fault as_it_is c.args.circuit.now c.args.claim (g.K.Sink.written c.args.sink.now) (g.K.Sink.written c.restore_with.new.sink)} {Q = λ (text : List ℕ). Appends (g.K.Sink.written c.args.sink.now) (g.K.Sink.written c.restore_with.new.sink) (restored_text c.args.circuit.now c.args.claim text)} (but_of _ c.in-Err.fault _ _ _ _ _ true of c.in-Err.ensures.restores) (λ text t. subst (Appends (g.K.Sink.written c.args.sink.now) (g.K.Sink.written c.restore_with.new.sink)) (as_they_are c.args.circuit.now c.args.claim text) t.1)

pub returns-in-Err-clause-beginning : goal.returns-in-Err-clause-beginning
returns-in-Err-clause-beginning g c apart =
    IfSome_then (g.S.Source.to_come c.args.source.now) {P = IsRestoredBut false c.in-Err.fault as_it_is c.args.circuit.now c.args.claim (g.K.Sink.written c.args.sink.now) (g.K.Sink.written c.restore_with.new.sink)} {Q = λ (text : List ℕ). AppendsBeginning (g.K.Sink.written c.args.sink.now) (g.K.Sink.written c.restore_with.new.sink) (restored_text c.args.circuit.now c.args.claim text)} (but_of _ c.in-Err.fault _ _ _ _ _ false apart c.in-Err.ensures.restores) (λ text t. subst (AppendsBeginning (g.K.Sink.written c.args.sink.now) (g.K.Sink.written c.restore_with.new.sink)) (as_they_are c.args.circuit.now c.args.claim text) t)
