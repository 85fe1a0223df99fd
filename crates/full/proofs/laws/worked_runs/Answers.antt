use Rattle.full.proofs.WorkedLemmas.{memory_is_model, array_is_no_word, first_run, second_run, lost, begins_otherwise, not_negated, memory_rises}
use Rattle.full.proofs.laws.worked_runs.Goals as goal

pub returns-clause-model : goal.returns-clause-model
returns-clause-model c = memory_is_model

pub returns-clause-no_model : goal.returns-clause-no_model
returns-clause-no_model c = array_is_no_word

pub returns-clause-first : goal.returns-clause-first
returns-clause-first c = first_run

pub returns-clause-second : goal.returns-clause-second
returns-clause-second c = second_run

pub returns-clause-lost : goal.returns-clause-lost
returns-clause-lost c = lost

pub returns-clause-other_begin : goal.returns-clause-other_begin
returns-clause-other_begin c = begins_otherwise

pub returns-clause-no_minus : goal.returns-clause-no_minus
returns-clause-no_minus c = not_negated

pub returns-clause-rises : goal.returns-clause-rises
returns-clause-rises c = memory_rises
