use Rattle.std.proofs.Common.{ℕ, refl}
use Rattle.invocation.specs.declared.tasks.Given.TheVariants as given
use Rattle.verbs.specs.declared.refusals.Claimed.TheVariants as claimed
use Rattle.verbs.specs.declared.refusals.Refusal.TheVariants as refusal
use Rattle.verbs.proofs.CountLemmas.{as_is, as_was, counted_behind, ends_as, failed, handed_on, idle, input_ends, of_no_input, unfailed}
use Rattle.verbs.proofs.GivenLemmas.{formless, gives_lowered, none_claimed, unclaimed_so}
use Rattle.verbs.proofs.lifting.lift_found.Goals as goal

pub returns-in_err-lowered-clause-refused : goal.returns-in_err-lowered-clause-refused
returns-in_err-lowered-clause-refused g c =
    let is = failed c.from_residual.result c.in_err-lowered.field-0.0 c.from_residual.ensures in
    rw is (none_claimed claimed.Found given.Model c.args.choice (g.A.Source.to_come c.args.first.now) c.in_err-lowered.field-0.0 c.in_err-lowered.ensures.refused)

pub returns-in_err-lowered-clause-ends : goal.returns-in_err-lowered-clause-ends
returns-in_err-lowered-clause-ends g c =
    let is = failed c.from_residual.result c.in_err-lowered.field-0.0 c.from_residual.ensures in
    ends_as as_is (unfailed refl) idle as_was (handed_on is c.in_err-lowered.ensures.ends)

pub returns-in_err-claim-clause-refused : goal.returns-in_err-claim-clause-refused
returns-in_err-claim-clause-refused g c =
    let is = failed c.from_residual-in_err-claim.result (refusal.Input c.in_err-claim.field-0.0) c.from_residual-in_err-claim.ensures in
    rw is (unclaimed_so claimed.Found given.Model c.args.choice (g.A.Source.to_come c.args.first.now) c.in_ok-lowered.lowered.circuit c.in_err-claim.field-0.0 (gives_lowered (g.A.Source.to_come c.args.first.now) c.in_ok-lowered.lowered c.in_ok-lowered.ensures.lowered) c.in_err-claim.ensures.unclaimed)

pub returns-in_err-claim-clause-ends : goal.returns-in_err-claim-clause-ends
returns-in_err-claim-clause-ends g c =
    let is = failed c.from_residual-in_err-claim.result (refusal.Input c.in_err-claim.field-0.0) c.from_residual-in_err-claim.ensures in
    ends_as (unfailed (c.in_ok-lowered.ensures.ends.counted 0 0 0).0) (unfailed refl) idle as_was (handed_on {T = ℕ} is input_ends)

pub returns-in_err-has_form-clause-refused : goal.returns-in_err-has_form-clause-refused
returns-in_err-has_form-clause-refused g c =
    let is = failed c.from_residual-in_err-has_form.result c.in_err-has_form.field-0.0 c.from_residual-in_err-has_form.ensures in
    rw is (formless claimed.Found given.Model c.args.choice (g.A.Source.to_come c.args.first.now) c.in_ok-lowered.lowered.circuit c.in_ok-claim.claim c.in_err-has_form.field-0.0 (gives_lowered (g.A.Source.to_come c.args.first.now) c.in_ok-lowered.lowered c.in_ok-lowered.ensures.lowered) c.in_ok-claim.ensures.claim c.in_err-has_form.ensures.refused)

pub returns-in_err-has_form-clause-ends : goal.returns-in_err-has_form-clause-ends
returns-in_err-has_form-clause-ends g c =
    let is = failed c.from_residual-in_err-has_form.result c.in_err-has_form.field-0.0 c.from_residual-in_err-has_form.ensures in
    ends_as (unfailed (c.in_ok-lowered.ensures.ends.counted 0 0 0).0) (unfailed refl) idle as_was (handed_on is c.in_err-has_form.ensures.ends)

pub returns-in_err-of_text-clause-refused : goal.returns-in_err-of_text-clause-refused
returns-in_err-of_text-clause-refused g c =
    let is = failed c.from_residual-in_err-of_text.result c.in_err-of_text.field-0.0 c.from_residual-in_err-of_text.ensures in
    rw is (of_no_input ℕ c.in_err-of_text.field-0.0 _ c.in_err-of_text.ensures.no_input)

pub returns-in_err-of_text-clause-ends : goal.returns-in_err-of_text-clause-ends
returns-in_err-of_text-clause-ends g c =
    let is = failed c.from_residual-in_err-of_text.result c.in_err-of_text.field-0.0 c.from_residual-in_err-of_text.ensures in
    handed_on {T = ℕ} is (counted_behind {T = ℕ} (c.in_ok-lowered.ensures.ends.counted 0 0 0).0 c.in_err-of_text.ensures.no_input tt (λ e. c.in_err-of_text.ensures.counted _ _ _ _ _ e c.lift_restored-told.ensures.counted))

pub returns-clause-ends : goal.returns-clause-ends
returns-clause-ends g c =
    let behind = c.in_ok-of_text.ensures.counted 0 _ _ _ _ 0 c.lift_restored-told.ensures.counted in
    record { counted = λ e. ((c.in_ok-lowered.ensures.ends.counted 0 0 0).0, behind.1, behind.2, refl); unwritten = tt; untold = tt }
