use Rattle.full.proofs.HalfLemmas.{halves, read_by_halves, write_by_halves, repeat_by_halves, lower_index, read_of_half, write_of_half}
use Rattle.full.proofs.laws.arrays_by_halves.Goals as goal

pub returns-clause-halves : goal.returns-clause-halves
returns-clause-halves c = halves

pub returns-clause-read : goal.returns-clause-read
returns-clause-read c = read_by_halves

pub returns-clause-write : goal.returns-clause-write
returns-clause-write c = write_by_halves

pub returns-clause-repeat : goal.returns-clause-repeat
returns-clause-repeat c = repeat_by_halves

pub returns-clause-index : goal.returns-clause-index
returns-clause-index c = lower_index

pub returns-clause-read_chosen : goal.returns-clause-read_chosen
returns-clause-read_chosen c = read_of_half

pub returns-clause-write_chosen : goal.returns-clause-write_chosen
returns-clause-write_chosen c = write_of_half
