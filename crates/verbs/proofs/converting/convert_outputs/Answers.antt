use Rattle.verbs.proofs.CountLemmas.{as_is, as_was, ends_as, failed, handed_on, idle, unfailed, unrefused}
use Rattle.verbs.proofs.EngineLemmas.{outputs_converted}
use Rattle.verbs.proofs.converting.convert_outputs.Goals as goal

pub returns-in_err-made-clause-ends : goal.returns-in_err-made-clause-ends
returns-in_err-made-clause-ends g c =
    let is = failed c.from_residual-in_err-made.result c.in_err-made.field-0.0 c.from_residual-in_err-made.ensures in
    ends_as (unfailed (c.in_ok-circuit.ensures.ends.counted 0 0 0).0) as_is idle as_was (handed_on is c.in_err-made.ensures.ends)

pub returns-clause-done : goal.returns-clause-done
returns-clause-done g c =
    outputs_converted c.write_circuit.result (g.A.Source.to_come c.args.first.now) _ _ c.args.form c.in_ok-circuit.circuit c.in_ok-made.made c.in_ok-circuit.ensures.read c.in_ok-made.ensures.made c.outputs_rise_as_bads.ensures.outputs_rise c.outputs_rise_as_bads.ensures.bads_rise c.write_circuit.ensures.done

pub returns-clause-ends : goal.returns-clause-ends
returns-clause-ends g c =
    ends_as (unfailed (c.in_ok-circuit.ensures.ends.counted 0 0 0).0) as_is as_was as_was (unrefused c.write_circuit.ensures.ends)
