use Rattle.drup.proofs.WorkedLemmas.{negation-gives_nothing, negation-not_implied, negation-implied}
use Rattle.drup.proofs.laws.worked_literal_and_negation.Goals as goal

pub returns-clause-gives_nothing : goal.returns-clause-gives_nothing
returns-clause-gives_nothing c = negation-gives_nothing

pub returns-clause-not_implied : goal.returns-clause-not_implied
returns-clause-not_implied c = negation-not_implied

pub returns-clause-implied : goal.returns-clause-implied
returns-clause-implied c = negation-implied
