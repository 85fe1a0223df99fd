use Rattle.full.proofs.CellLemmas.{one_cell, one_cell_written, repeat_one}
use Rattle.full.proofs.laws.one_cell.Goals as goal

pub returns-clause-read : goal.returns-clause-read
returns-clause-read c = one_cell

pub returns-clause-write : goal.returns-clause-write
returns-clause-write c = one_cell_written

pub returns-clause-repeat : goal.returns-clause-repeat
returns-clause-repeat c = repeat_one
