use Rattle.btor2.proofs.TraceLemmas.{trace_exists, trace_unique}
use Rattle.btor2.proofs.laws.exactly_one_trace.Goals as goal

pub returns-clause-exists : goal.returns-clause-exists
returns-clause-exists c = trace_exists

pub returns-clause-unique : goal.returns-clause-unique
returns-clause-unique c = trace_unique
