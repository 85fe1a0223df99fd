use Rattle.invocation.specs.declared.tasks.Given.TheVariants as given
use Rattle.verbs.specs.Refusals.{IsNotForEngines, IsWithoutForm}
use Rattle.verbs.specs.Statuses.{IfInput}
use Rattle.verbs.proofs.CountLemmas.{as_is, as_was, ends_as, unfailed}
use Rattle.verbs.proofs.EngineLemmas.{fitted_for_engines}
use Rattle.verbs.proofs.GivenLemmas.{gives_fitted, not_for_engines, where_failed}
use Rattle.verbs.proofs.lowering.lower_fitted_for_engines.Goals as goal

pub returns-clause-done : goal.returns-clause-done
returns-clause-done g c =
    let is = c.in_ok-lowered.ensures.lowered in
    fitted_for_engines c.write_engine_form.result (g.A.Source.to_come c.args.first.now) _ _ c.args.form c.args.choice c.in_ok-lowered.lowered.circuit (record { narrow = c.in_ok-lowered.lowered.model; fits = is.fits; accepted = is.accepted; lowers = is.lowers }) (λ b. c.bad_properties_rise_alike.ensures c.in_ok-lowered.lowered.model c.in_ok-lowered.lowered.circuit b is.lowers) c.bad_properties_rise_alike-2.ensures.all c.bad_properties_rise_alike-2.ensures.one c.write_engine_form.ensures.done

pub returns-clause-refused : goal.returns-clause-refused
returns-clause-refused g c =
    where_failed c.write_engine_form.result (IfInput (IsWithoutForm c.in_ok-lowered.lowered.circuit c.args.choice)) (IfInput (IsNotForEngines given.Fitted c.args.choice (g.A.Source.to_come c.args.first.now))) (λ x. not_for_engines given.Fitted c.args.choice (g.A.Source.to_come c.args.first.now) c.in_ok-lowered.lowered.circuit x (gives_fitted (g.A.Source.to_come c.args.first.now) c.in_ok-lowered.lowered c.in_ok-lowered.ensures.lowered)) c.write_engine_form.ensures.refused

pub returns-clause-ends : goal.returns-clause-ends
returns-clause-ends g c =
    ends_as (unfailed (c.in_ok-lowered.ensures.ends.counted 0 0 0).0) as_is as_was as_was c.write_engine_form.ensures.ends
