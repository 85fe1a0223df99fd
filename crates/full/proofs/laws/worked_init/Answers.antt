use Rattle.full.proofs.FilledLemmas.{filled_is_model, filled_runs, filled_otherwise, filled_is_written, other_constant}
use Rattle.full.proofs.laws.worked_init.Goals as goal

pub returns-clause-model : goal.returns-clause-model
returns-clause-model c = filled_is_model

pub returns-clause-begins : goal.returns-clause-begins
returns-clause-begins c = filled_runs

pub returns-clause-begins_otherwise : goal.returns-clause-begins_otherwise
returns-clause-begins_otherwise c = filled_otherwise

pub returns-clause-written : goal.returns-clause-written
returns-clause-written c = filled_is_written

pub returns-clause-otherwise : goal.returns-clause-otherwise
returns-clause-otherwise c = other_constant
