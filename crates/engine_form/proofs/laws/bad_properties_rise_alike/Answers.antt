use Rattle.std.proofs.Common.{Some, None, refl}
use Rattle.engine_form.proofs.RiseLemmas.{rises_in_form, rises_in_circuit, chosen_first}
use Rattle.engine_form.proofs.laws.bad_properties_rise_alike.Goals as goal

pub returns-clause-all : goal.returns-clause-all
returns-clause-all c circuit d b form = (
  λ h. (rises_in_form circuit None d b b form refl (λ state inputs. c.exactly_one_trace.ensures.exists d state inputs form.circuit) h).0,
  λ h. (rises_in_circuit circuit None d b b form refl (λ state inputs. c.exactly_one_trace.ensures.exists circuit state inputs form.original) h).0,
)

pub returns-clause-one : goal.returns-clause-one
returns-clause-one c circuit d b form = (
  λ h. (rises_in_form circuit (Some b) d b 0 form (chosen_first b circuit.bads) (λ state inputs. c.exactly_one_trace.ensures.exists d state inputs form.circuit) h).0,
  λ h. (rises_in_circuit circuit (Some b) d b 0 form (chosen_first b circuit.bads) (λ state inputs. c.exactly_one_trace.ensures.exists circuit state inputs form.original) h).0,
)
