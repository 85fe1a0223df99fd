use Rattle.restore.proofs.RestoringLemmas.{found_admitted}
use Rattle.restore.proofs.laws.restored_lines_are_admitted.Goals as goal

pub returns-clause-lines : goal.returns-clause-lines
returns-clause-lines c circuit k text valid below = (found_admitted circuit k text valid below).0

pub returns-clause-admitted : goal.returns-clause-admitted
returns-clause-admitted c circuit k text valid below = (found_admitted circuit k text valid below).1
