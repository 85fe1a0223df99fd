use Rattle.verbs.specs.Outputs.{IsNotWithOutputsForEngines}
use Rattle.verbs.specs.Refusals.{IsWithoutForm}
use Rattle.verbs.specs.Statuses.{IfInput}
use Rattle.verbs.proofs.CountLemmas.{as_is, as_was, ends_as, failed, handed_on, idle, unfailed}
use Rattle.verbs.proofs.EngineLemmas.{outputs_for_engines}
use Rattle.verbs.proofs.GivenLemmas.{outputs_formless, where_failed}
use Rattle.verbs.proofs.converting.convert_outputs_for_engines.Goals as goal

pub returns-in_err-made-clause-ends : goal.returns-in_err-made-clause-ends
returns-in_err-made-clause-ends g c =
    let is = failed c.from_residual-in_err-made.result c.in_err-made.field-0.0 c.from_residual-in_err-made.ensures in
    ends_as (unfailed (c.in_ok-circuit.ensures.ends.counted 0 0 0).0) as_is idle as_was (handed_on is c.in_err-made.ensures.ends)

pub returns-clause-done : goal.returns-clause-done
returns-clause-done g c =
    outputs_for_engines c.write_engine_form.result (g.A.Source.to_come c.args.first.now) _ _ c.args.form c.args.choice c.in_ok-circuit.circuit c.in_ok-made.made c.in_ok-circuit.ensures.read c.in_ok-made.ensures.made c.outputs_rise_as_bads.ensures.outputs_rise c.outputs_rise_as_bads.ensures.bads_rise c.bad_properties_rise_alike.ensures.all c.bad_properties_rise_alike.ensures.one c.write_engine_form.ensures.done

pub returns-clause-refused : goal.returns-clause-refused
returns-clause-refused g c =
    where_failed c.write_engine_form.result (IfInput (IsWithoutForm c.in_ok-made.made c.args.choice)) (IfInput (IsNotWithOutputsForEngines c.args.choice (g.A.Source.to_come c.args.first.now))) (λ x. outputs_formless c.args.choice (g.A.Source.to_come c.args.first.now) c.in_ok-circuit.circuit c.in_ok-made.made x c.in_ok-circuit.ensures.read c.in_ok-made.ensures.made) c.write_engine_form.ensures.refused

pub returns-clause-ends : goal.returns-clause-ends
returns-clause-ends g c =
    ends_as (unfailed (c.in_ok-circuit.ensures.ends.counted 0 0 0).0) as_is as_was as_was c.write_engine_form.ensures.ends
