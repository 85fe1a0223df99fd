use Rattle.std.proofs.Common.{ℕ, refl}
use Rattle.verbs.specs.Conversions.{of_engine_form}
use Rattle.verbs.proofs.CountLemmas.{as_was, counted_behind, ends_as, engine_ends, failed, handed_on, idle, unfailed}
use Rattle.verbs.proofs.restoring.restore_from_form.Goals as goal

pub returns-in_err-form-clause-ends : goal.returns-in_err-form-clause-ends
returns-in_err-form-clause-ends g c =
    let is = failed c.from_residual-in_err-form.result (of_engine_form c.in_err-form.field-0.0) c.from_residual-in_err-form.ensures in
    ends_as (unfailed (c.in_ok-circuit.ensures.ends.counted 0 0 0).0) (unfailed refl) idle as_was (handed_on {T = ℕ} is (engine_ends c.in_err-form.field-0.0))

pub returns-in_err-judgement-clause-ends : goal.returns-in_err-judgement-clause-ends
returns-in_err-judgement-clause-ends g c =
    let is = failed c.from_residual-in_err-judgement.result c.in_err-judgement.field-0.0 c.from_residual-in_err-judgement.ensures in
    handed_on {T = ℕ} is (counted_behind {T = ℕ} (c.in_ok-circuit.ensures.ends.counted 0 0 0).0 c.in_err-judgement.ensures.no_input tt (λ e. c.in_err-judgement.ensures.counted _ _ _ _ _ e c.restore_form-told.ensures.counted))

pub returns-clause-ends : goal.returns-clause-ends
returns-clause-ends g c =
    let behind = c.in_ok-judgement.ensures.counted 0 _ _ _ _ 0 c.restore_form-told.ensures.counted in
    record { counted = λ e. ((c.in_ok-circuit.ensures.ends.counted 0 0 0).0, behind.1, behind.2, refl); unwritten = tt; untold = tt }
