use Rattle.full.proofs.CellLemmas.{written_is_read, other_is_read_below, other_is_read_above, repeat_is_read}
use Rattle.full.proofs.HalfLemmas.{cells_same}
use Rattle.full.proofs.laws.cells_hold.Goals as goal

pub returns-clause-written : goal.returns-clause-written
returns-clause-written c = written_is_read

pub returns-clause-below : goal.returns-clause-below
returns-clause-below c = other_is_read_below

pub returns-clause-above : goal.returns-clause-above
returns-clause-above c = other_is_read_above

pub returns-clause-repeated : goal.returns-clause-repeated
returns-clause-repeated c = repeat_is_read

pub returns-clause-same : goal.returns-clause-same
returns-clause-same c = cells_same
