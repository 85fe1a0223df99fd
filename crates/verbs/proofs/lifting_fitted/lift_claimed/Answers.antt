use Rattle.std.proofs.Common.{ℕ, inl, refl}
use Rattle.verbs.specs.declared.refusals.Refusal.TheVariants as refusal
use Rattle.verbs.proofs.CountLemmas.{as_is, as_was, ends_as, failed, handed_on, idle, input_ends, unfailed}
use Rattle.verbs.proofs.FitLemmas.{without_form}
use Rattle.verbs.proofs.WholeLemmas.{never_input}
use Rattle.verbs.proofs.lifting_fitted.lift_claimed.Goals as goal

pub returns-in_err-claim-clause-refused : goal.returns-in_err-claim-clause-refused
returns-in_err-claim-clause-refused g c =
    let is = failed c.from_residual.result (refusal.Input c.in_err-claim.field-0.0) c.from_residual.ensures in
    rw is (inl c.in_err-claim.ensures.unclaimed)

pub returns-in_err-claim-clause-ends : goal.returns-in_err-claim-clause-ends
returns-in_err-claim-clause-ends g c =
    let is = failed c.from_residual.result (refusal.Input c.in_err-claim.field-0.0) c.from_residual.ensures in
    ends_as as_is (unfailed refl) idle as_was (handed_on {T = ℕ} is input_ends)

pub returns-in_err-has_form-clause-refused : goal.returns-in_err-has_form-clause-refused
returns-in_err-has_form-clause-refused g c =
    let is = failed c.from_residual-in_err-has_form.result c.in_err-has_form.field-0.0 c.from_residual-in_err-has_form.ensures in
    rw is (without_form c.args.choice c.args.lowered.now.circuit c.in_ok-claim.claim c.in_err-has_form.field-0.0 c.in_ok-claim.ensures.claim c.in_err-has_form.ensures.refused)

pub returns-in_err-has_form-clause-ends : goal.returns-in_err-has_form-clause-ends
returns-in_err-has_form-clause-ends g c =
    let is = failed c.from_residual-in_err-has_form.result c.in_err-has_form.field-0.0 c.from_residual-in_err-has_form.ensures in
    ends_as as_is (unfailed refl) idle as_was (handed_on is c.in_err-has_form.ensures.ends)

pub lift_found_over-requires : goal.lift_found_over-requires
lift_found_over-requires g c = record { lowered = c.requires.lowered; claim = c.in_ok-has_form.ensures.there }

pub returns-in-Ok-clause-lifts : goal.returns-in-Ok-clause-lifts
returns-in-Ok-clause-lifts g c = (c.in_ok-claim.ensures.claim, (c.in_ok-has_form.ensures.accepted, c.in-Ok.ensures.lifts))

pub returns-in-Ok-clause-ends : goal.returns-in-Ok-clause-ends
returns-in-Ok-clause-ends g c = record { counted = λ f e. (refl, (c.in-Ok.ensures.ends.counted 0 0).1, (c.in-Ok.ensures.ends.counted 0 0).2, refl); unwritten = tt; untold = tt }

pub returns-in-Err-clause-refused : goal.returns-in-Err-clause-refused
returns-in-Err-clause-refused g c = never_input _ c.in-Err.refusal c.in-Err.ensures.refused

pub returns-in-Err-clause-ends : goal.returns-in-Err-clause-ends
returns-in-Err-clause-ends g c = handed_on refl c.in-Err.ensures.ends
