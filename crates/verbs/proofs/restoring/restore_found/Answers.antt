use Rattle.std.proofs.Common.{◌≡◌, ℕ, true, IfErr, IfSome, Result, refl, subst, sym}
use Rattle.restore.specs.Faults.{is_of_text}
use Rattle.restore.specs.declared.fault.RestoreFault.{RestoreFault}
use Rattle.witness.specs.declared.judgement.Judgement.{Judgement}
use Rattle.verbs.specs.Restoring.{IsToldOf}
use Rattle.verbs.specs.declared.refusals.Refusal.TheVariants as refusal
use Rattle.verbs.proofs.CountLemmas.{as_was, counted_behind, ends_as, failed, handed_on, idle, input_ends, unfailed}
use Rattle.verbs.proofs.RestoringLemmas.{told_so, written_so}
use Rattle.verbs.proofs.restoring.restore_found.Goals as goal

pub returns-in_err-claim-clause-ends : goal.returns-in_err-claim-clause-ends
returns-in_err-claim-clause-ends g c =
    let is = failed c.from_residual-in_err-claim.result (refusal.Input c.in_err-claim.field-0.0) c.from_residual-in_err-claim.ensures in
    ends_as (unfailed (c.in_ok-circuit.ensures.ends.counted 0 0 0).0) (unfailed refl) idle as_was (handed_on {T = ℕ} is input_ends)

pub returns-in_err-has_form-clause-ends : goal.returns-in_err-has_form-clause-ends
returns-in_err-has_form-clause-ends g c =
    let is = failed c.from_residual-in_err-has_form.result c.in_err-has_form.field-0.0 c.from_residual-in_err-has_form.ensures in
    ends_as (unfailed (c.in_ok-circuit.ensures.ends.counted 0 0 0).0) (unfailed refl) idle as_was (handed_on is c.in_err-has_form.ensures.ends)

pub returns-in_err-of_text-clause-ends : goal.returns-in_err-of_text-clause-ends
returns-in_err-of_text-clause-ends g c =
    let is = failed c.from_residual-in_err-of_text.result c.in_err-of_text.field-0.0 c.from_residual-in_err-of_text.ensures in
    let first = (c.in_ok-circuit.ensures.ends.counted 0 0 0).0 in
    handed_on {T = ℕ} is (counted_behind {T = ℕ} first c.in_err-of_text.ensures.no_input tt (λ e. c.in_err-of_text.ensures.counted _ _ _ _ _ e c.restore-told.ensures.counted))

pub returns-clause-ends : goal.returns-clause-ends
returns-clause-ends g c =
    let behind = c.in_ok-of_text.ensures.counted 0 _ _ _ _ 0 c.restore-told.ensures.counted in
    record { counted = λ e. ((c.in_ok-circuit.ensures.ends.counted 0 0 0).0, behind.1, behind.2, refl); unwritten = tt; untold = tt }

pub returns-clause-restored : goal.returns-clause-restored
returns-clause-restored g c =
    let found = g.B.Source.to_come c.args.second.now in
    let told = c.restore-told.result in
    let same = c.in_ok-of_text.ensures.told in
    let line = subst (λ (r : Result Judgement RestoreFault). IfErr r (λ e. is_of_text e.why ≡ true)) same c.in_ok-of_text.ensures.of_text in
    let e = c.restore-told.ensures in
    rw c.circuit.view_is (record {
      is_circuit = c.inputs.ensures.valid;
      text = c.in_ok-circuit.ensures.read;
      is_claim = c.in_ok-claim.ensures.claim;
      accepted = c.in_ok-has_form.ensures.accepted;
      restored = written_so told _ line e.written e.before;
      told = subst (λ (r : Result Judgement RestoreFault). IfSome found (λ text. IsToldOf c.in_ok-circuit.circuit c.in_ok-claim.claim text r)) (sym same) (told_so told c.in_ok-circuit.circuit c.in_ok-claim.claim found line e.judged e.found e.right e.faulty);
    })
