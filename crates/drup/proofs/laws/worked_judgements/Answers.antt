use Rattle.drup.proofs.WorkedJudgements.{judges-derived, judges-not_implied, judges-not_derived, judges-malformed, judges-by_itself}
use Rattle.drup.proofs.laws.worked_judgements.Goals as goal

pub returns-clause-derived : goal.returns-clause-derived
returns-clause-derived c = judges-derived

pub returns-clause-not_implied : goal.returns-clause-not_implied
returns-clause-not_implied c = judges-not_implied

pub returns-clause-not_derived : goal.returns-clause-not_derived
returns-clause-not_derived c = judges-not_derived

pub returns-clause-malformed : goal.returns-clause-malformed
returns-clause-malformed c = judges-malformed

pub returns-clause-by_itself : goal.returns-clause-by_itself
returns-clause-by_itself c = judges-by_itself
