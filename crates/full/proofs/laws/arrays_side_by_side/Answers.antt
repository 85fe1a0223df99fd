use Rattle.full.proofs.CellLemmas.{read_low, read_high, write_low, write_high, repeat_joined}
use Rattle.full.proofs.laws.arrays_side_by_side.Goals as goal

pub returns-clause-read_low : goal.returns-clause-read_low
returns-clause-read_low c = read_low

pub returns-clause-read_high : goal.returns-clause-read_high
returns-clause-read_high c = read_high

pub returns-clause-write_low : goal.returns-clause-write_low
returns-clause-write_low c = write_low

pub returns-clause-write_high : goal.returns-clause-write_high
returns-clause-write_high c = write_high

pub returns-clause-repeat : goal.returns-clause-repeat
returns-clause-repeat c = repeat_joined
