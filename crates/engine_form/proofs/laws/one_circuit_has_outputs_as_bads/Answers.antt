use Rattle.engine_form.proofs.OutputLemmas.{one_only}
use Rattle.engine_form.proofs.laws.one_circuit_has_outputs_as_bads.Goals as goal

pub returns : goal.returns
returns x = one_only
