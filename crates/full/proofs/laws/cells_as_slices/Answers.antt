use Rattle.full.proofs.HalfLemmas.{cell_is_slice, below_is_slice, above_is_slice}
use Rattle.full.proofs.laws.cells_as_slices.Goals as goal

pub returns-clause-cell : goal.returns-clause-cell
returns-clause-cell c = cell_is_slice

pub returns-clause-below : goal.returns-clause-below
returns-clause-below c = below_is_slice

pub returns-clause-above : goal.returns-clause-above
returns-clause-above c = above_is_slice
