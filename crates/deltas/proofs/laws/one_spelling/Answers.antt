use Rattle.deltas.proofs.ReadLemmas.{number-read}
use Rattle.deltas.proofs.BackLemmas.{number-back}
use Rattle.deltas.proofs.laws.one_spelling.Goals as goal

pub returns-clause-read : goal.returns-clause-read
returns-clause-read c = number-read

pub returns-clause-written : goal.returns-clause-written
returns-clause-written c = number-back
