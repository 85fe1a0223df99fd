use Rattle.cells.proofs.PlaceLemmas.{found_at, free_behind, within_places, found_last, width_last}
use Rattle.cells.proofs.laws.ids_are_places.Goals as goal

pub returns-clause-found : goal.returns-clause-found
returns-clause-found c = found_at

pub returns-clause-free : goal.returns-clause-free
returns-clause-free c = free_behind

pub returns-clause-within : goal.returns-clause-within
returns-clause-within c = within_places

pub returns-clause-last : goal.returns-clause-last
returns-clause-last c = found_last

pub returns-clause-width : goal.returns-clause-width
returns-clause-width c = width_last
