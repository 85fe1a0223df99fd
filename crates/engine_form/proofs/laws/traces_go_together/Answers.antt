use Rattle.engine_form.proofs.RiseLemmas.{form_trace, circuit_trace}
use Rattle.engine_form.proofs.laws.traces_go_together.Goals as goal

pub returns-clause-of_circuit : goal.returns-clause-of_circuit
returns-clause-of_circuit c circuit choice d form = form_trace circuit choice d form (λ state inputs. c.exactly_one_trace.ensures.exists d state inputs form.circuit)

pub returns-clause-of_form : goal.returns-clause-of_form
returns-clause-of_form c circuit choice d form = circuit_trace circuit choice d form (λ state inputs. c.exactly_one_trace.ensures.exists circuit state inputs form.original)
