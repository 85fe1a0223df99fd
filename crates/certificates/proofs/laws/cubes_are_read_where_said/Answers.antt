use Rattle.certificates.proofs.SaidLemmas.{said, read}
use Rattle.certificates.proofs.laws.cubes_are_read_where_said.Goals as goal

pub returns-clause-said : goal.returns-clause-said
returns-clause-said c = said

pub returns-clause-read : goal.returns-clause-read
returns-clause-read c = read
