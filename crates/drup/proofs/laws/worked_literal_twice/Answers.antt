use Rattle.drup.proofs.WorkedLemmas.{twice-gives, twice-implied, twice-not_implied}
use Rattle.drup.proofs.laws.worked_literal_twice.Goals as goal

pub returns-clause-gives : goal.returns-clause-gives
returns-clause-gives c = twice-gives

pub returns-clause-implied : goal.returns-clause-implied
returns-clause-implied c = twice-implied

pub returns-clause-not_implied : goal.returns-clause-not_implied
returns-clause-not_implied c = twice-not_implied
