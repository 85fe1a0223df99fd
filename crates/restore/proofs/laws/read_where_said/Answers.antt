use Rattle.restore.proofs.ReadingLemmas.{said, read}
use Rattle.restore.proofs.laws.read_where_said.Goals as goal

pub returns-clause-said : goal.returns-clause-said
returns-clause-said c = said

pub returns-clause-read : goal.returns-clause-read
returns-clause-read c width text given some = read width text given
