use Rattle.cells.proofs.SoundLemmas.{sound_sort, sound_node, sound_input, sound_state, sound_init, sound_next, sound_bad, sound_constraint, sound_output}
use Rattle.cells.proofs.laws.lines_are_sound.Goals as goal

pub returns-clause-sort : goal.returns-clause-sort
returns-clause-sort c = sound_sort

pub returns-clause-node : goal.returns-clause-node
returns-clause-node c = sound_node

pub returns-clause-input : goal.returns-clause-input
returns-clause-input c = sound_input

pub returns-clause-state : goal.returns-clause-state
returns-clause-state c = sound_state

pub returns-clause-init : goal.returns-clause-init
returns-clause-init c = sound_init

pub returns-clause-next : goal.returns-clause-next
returns-clause-next c = sound_next

pub returns-clause-bad : goal.returns-clause-bad
returns-clause-bad c = sound_bad

pub returns-clause-constraint : goal.returns-clause-constraint
returns-clause-constraint c = sound_constraint

pub returns-clause-output : goal.returns-clause-output
returns-clause-output c = sound_output
