use Rattle.full.proofs.GivesLemmas.{carried_by, carried_input, carried_state, carried_nothing, plain_operand, minus_operand, form_carried, first_word_of, first_word_cells}
use Rattle.full.proofs.laws.lines_by_nodes.Goals as goal

pub returns-clause-carried : goal.returns-clause-carried
returns-clause-carried c = carried_by

pub returns-clause-input : goal.returns-clause-input
returns-clause-input c = carried_input

pub returns-clause-state : goal.returns-clause-state
returns-clause-state c = carried_state

pub returns-clause-no_node : goal.returns-clause-no_node
returns-clause-no_node c = carried_nothing

pub returns-clause-plain : goal.returns-clause-plain
returns-clause-plain c = plain_operand

pub returns-clause-minus : goal.returns-clause-minus
returns-clause-minus c = minus_operand

pub returns-clause-form : goal.returns-clause-form
returns-clause-form c = form_carried

pub returns-clause-first : goal.returns-clause-first
returns-clause-first c = first_word_of

pub returns-clause-cells : goal.returns-clause-cells
returns-clause-cells c = first_word_cells
