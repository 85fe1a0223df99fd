use Rattle.std.proofs.Common.{ℕ, refl}
use Rattle.verbs.specs.Conversions.{of_engine_form}
use Rattle.verbs.proofs.CountLemmas.{as_is, as_was, ends_as, engine_ends, failed, handed_on, idle, unfailed}
use Rattle.verbs.proofs.FitLemmas.{form_told, never_told}
use Rattle.verbs.proofs.GivenLemmas.{no_form}
use Rattle.verbs.proofs.lifting_fitted.lift_formed.Goals as goal

pub returns-in_err-form-clause-refused : goal.returns-in_err-form-clause-refused
returns-in_err-form-clause-refused g c =
    let is = failed c.from_residual.result (of_engine_form c.in_err-form.field-0.0) c.from_residual.ensures in
    rw is (no_form c.args.lowered.now.circuit c.args.choice c.in_err-form.field-0.0 c.in_err-form.ensures.answer)

pub returns-in_err-form-clause-ends : goal.returns-in_err-form-clause-ends
returns-in_err-form-clause-ends g c =
    let is = failed c.from_residual.result (of_engine_form c.in_err-form.field-0.0) c.from_residual.ensures in
    ends_as as_is (unfailed refl) idle as_was (handed_on {T = ℕ} is (engine_ends c.in_err-form.field-0.0))

pub lift_form_over-requires : goal.lift_form_over-requires
lift_form_over-requires g c = record { lowered = c.requires.lowered; is_form = c.in_ok-form.ensures.ok }

pub returns-clause-lifts : goal.returns-clause-lifts
returns-clause-lifts g c = form_told c.lift_form_over.result _ _ _ _ _ c.in_ok-form.form _ _ _ c.in_ok-form.ensures.ok c.lift_form_over.ensures.lifts

pub returns-clause-refused : goal.returns-clause-refused
returns-clause-refused g c = never_told c.lift_form_over.result _ c.lift_form_over.ensures.refused
