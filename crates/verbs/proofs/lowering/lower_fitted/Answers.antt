use Rattle.invocation.specs.declared.tasks.Given.TheVariants as given
use Rattle.verbs.specs.Refusals.{IsNotGiven}
use Rattle.verbs.proofs.CountLemmas.{as_is, as_was, ends_as, no_input, unfailed, unrefused}
use Rattle.verbs.proofs.EngineLemmas.{fitted_written}
use Rattle.verbs.proofs.lowering.lower_fitted.Goals as goal

pub returns-clause-done : goal.returns-clause-done
returns-clause-done g c =
    let is = c.in_ok-lowered.ensures.lowered in
    fitted_written c.write_circuit.result (g.A.Source.to_come c.args.first.now) _ _ c.args.form c.in_ok-lowered.lowered.circuit (record { narrow = c.in_ok-lowered.lowered.model; fits = is.fits; accepted = is.accepted; lowers = is.lowers }) (λ b. c.bad_properties_rise_alike.ensures c.in_ok-lowered.lowered.model c.in_ok-lowered.lowered.circuit b is.lowers) c.write_circuit.ensures.done

pub returns-clause-ends : goal.returns-clause-ends
returns-clause-ends g c =
    ends_as (unfailed (c.in_ok-lowered.ensures.ends.counted 0 0 0).0) as_is as_was as_was (unrefused c.write_circuit.ensures.ends)

pub returns-clause-refused : goal.returns-clause-refused
returns-clause-refused g c = no_input c.write_circuit.result (IsNotGiven given.Fitted (g.A.Source.to_come c.args.first.now)) c.write_circuit.ensures.ends.no_input
