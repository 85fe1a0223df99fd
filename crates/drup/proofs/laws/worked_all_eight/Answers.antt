use Rattle.drup.proofs.WorkedLemmas.{all_eight-free, all_eight-implied, all_eight-not_implied, all_eight-unsatisfiable}
use Rattle.drup.proofs.laws.worked_all_eight.Goals as goal

pub returns-clause-free : goal.returns-clause-free
returns-clause-free c = all_eight-free

pub returns-clause-implied : goal.returns-clause-implied
returns-clause-implied c = all_eight-implied

pub returns-clause-not_implied : goal.returns-clause-not_implied
returns-clause-not_implied c = all_eight-not_implied

pub returns-clause-unsatisfiable : goal.returns-clause-unsatisfiable
returns-clause-unsatisfiable c = all_eight-unsatisfiable
