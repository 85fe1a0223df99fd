use Rattle.engine_form.proofs.OutputRows.{conjunction_has, named_has}
use Rattle.engine_form.proofs.laws.worked_outputs.Goals as goal

pub returns-clause-conjunction : goal.returns-clause-conjunction
returns-clause-conjunction c = conjunction_has c.worked_output_circuits.ensures.conjunction.0 c.worked_output_circuits.ensures.conjunction.1

pub returns-clause-named : goal.returns-clause-named
returns-clause-named c = named_has c.worked_output_circuits.ensures.named.0 c.worked_output_circuits.ensures.named.1
