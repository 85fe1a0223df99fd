use Rattle.restore.proofs.FormWitnessLemmas.{form_admitted}
use Rattle.restore.proofs.form_laws.restored_lines_are_admitted.Goals as goal

pub returns-clause-lines : goal.returns-clause-lines
returns-clause-lines c circuit choice d text form = (form_admitted circuit choice d text c.exactly_one_trace.ensures.exists form).0

pub returns-clause-admitted : goal.returns-clause-admitted
returns-clause-admitted c circuit choice d text form = (form_admitted circuit choice d text c.exactly_one_trace.ensures.exists form).1
