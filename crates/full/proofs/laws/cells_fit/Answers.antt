use Rattle.full.proofs.CellLemmas.{read_below, write_below, repeat_below}
use Rattle.full.proofs.laws.cells_fit.Goals as goal

pub returns-clause-read : goal.returns-clause-read
returns-clause-read c = read_below

pub returns-clause-write : goal.returns-clause-write
returns-clause-write c = write_below

pub returns-clause-repeat : goal.returns-clause-repeat
returns-clause-repeat c = repeat_below
