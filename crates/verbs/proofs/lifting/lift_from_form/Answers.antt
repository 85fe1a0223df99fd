use Rattle.std.proofs.Common.{ℕ, refl}
use Rattle.invocation.specs.declared.tasks.Given.TheVariants as given
use Rattle.verbs.specs.Conversions.{of_engine_form}
use Rattle.verbs.proofs.CountLemmas.{as_was, counted_behind, ends_as, engine_ends, failed, handed_on, idle, of_no_input, unfailed}
use Rattle.verbs.proofs.GivenLemmas.{gives_lowered, no_form, not_for_engines}
use Rattle.verbs.proofs.lifting.lift_from_form.Goals as goal

pub returns-in_err-form-clause-refused : goal.returns-in_err-form-clause-refused
returns-in_err-form-clause-refused g c =
    let is = failed c.from_residual-in_err-form.result (of_engine_form c.in_err-form.field-0.0) c.from_residual-in_err-form.ensures in
    rw is (not_for_engines given.Model c.args.choice (g.A.Source.to_come c.args.first.now) c.in_ok-lowered.lowered.circuit (of_engine_form c.in_err-form.field-0.0) (gives_lowered (g.A.Source.to_come c.args.first.now) c.in_ok-lowered.lowered c.in_ok-lowered.ensures.lowered) (no_form c.in_ok-lowered.lowered.circuit c.args.choice c.in_err-form.field-0.0 c.in_err-form.ensures.answer))

pub returns-in_err-form-clause-ends : goal.returns-in_err-form-clause-ends
returns-in_err-form-clause-ends g c =
    let is = failed c.from_residual-in_err-form.result (of_engine_form c.in_err-form.field-0.0) c.from_residual-in_err-form.ensures in
    ends_as (unfailed (c.in_ok-lowered.ensures.ends.counted 0 0 0).0) (unfailed refl) idle as_was (handed_on {T = ℕ} is (engine_ends c.in_err-form.field-0.0))

pub returns-in_err-judgement-clause-refused : goal.returns-in_err-judgement-clause-refused
returns-in_err-judgement-clause-refused g c =
    let is = failed c.from_residual-in_err-judgement.result c.in_err-judgement.field-0.0 c.from_residual-in_err-judgement.ensures in
    rw is (of_no_input ℕ c.in_err-judgement.field-0.0 _ c.in_err-judgement.ensures.no_input)

pub returns-in_err-judgement-clause-ends : goal.returns-in_err-judgement-clause-ends
returns-in_err-judgement-clause-ends g c =
    let is = failed c.from_residual-in_err-judgement.result c.in_err-judgement.field-0.0 c.from_residual-in_err-judgement.ensures in
    handed_on {T = ℕ} is (counted_behind {T = ℕ} (c.in_ok-lowered.ensures.ends.counted 0 0 0).0 c.in_err-judgement.ensures.no_input tt (λ e. c.in_err-judgement.ensures.counted _ _ _ _ _ e c.lift_form-told.ensures.counted))

pub returns-clause-ends : goal.returns-clause-ends
returns-clause-ends g c =
    let behind = c.in_ok-judgement.ensures.counted 0 _ _ _ _ 0 c.lift_form-told.ensures.counted in
    record { counted = λ e. ((c.in_ok-lowered.ensures.ends.counted 0 0 0).0, behind.1, behind.2, refl); unwritten = tt; untold = tt }
