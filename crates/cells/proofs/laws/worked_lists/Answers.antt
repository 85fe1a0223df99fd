use Rattle.cells.proofs.WorkedLemmas.{negated, not_handed, no_leaf, numbered, not_numbered, sound, not_sound}
use Rattle.cells.proofs.laws.worked_lists.Goals as goal

pub returns-clause-negated : goal.returns-clause-negated
returns-clause-negated c = negated

pub returns-clause-not_handed : goal.returns-clause-not_handed
returns-clause-not_handed c = not_handed

pub returns-clause-leaf : goal.returns-clause-leaf
returns-clause-leaf c = no_leaf

pub returns-clause-numbered : goal.returns-clause-numbered
returns-clause-numbered c = numbered

pub returns-clause-not_numbered : goal.returns-clause-not_numbered
returns-clause-not_numbered c = not_numbered

pub returns-clause-sound : goal.returns-clause-sound
returns-clause-sound c = sound

pub returns-clause-not_sound : goal.returns-clause-not_sound
returns-clause-not_sound c = not_sound
