use Rattle.verbs.proofs.CountLemmas.{as_is, as_was, ends_as, unfailed}
use Rattle.verbs.proofs.EngineLemmas.{converted}
use Rattle.verbs.proofs.converting.convert_for_engines.Goals as goal

pub returns-clause-done : goal.returns-clause-done
returns-clause-done g c =
    converted c.write_engine_form.result (g.A.Source.to_come c.args.first.now) _ _ c.args.form c.args.choice c.in_ok-circuit.circuit c.in_ok-circuit.ensures.read c.bad_properties_rise_alike.ensures.all c.bad_properties_rise_alike.ensures.one c.write_engine_form.ensures.done

pub returns-clause-ends : goal.returns-clause-ends
returns-clause-ends g c =
    ends_as (unfailed (c.in_ok-circuit.ensures.ends.counted 0 0 0).0) as_is as_was as_was c.write_engine_form.ensures.ends
