use Rattle.drup.proofs.WorkedJudgements.{judges_binary-derived, judges_binary-not_implied, judges_binary-not_derived, judges_binary-malformed}
use Rattle.drup.proofs.laws.worked_binary_judgements.Goals as goal

pub returns-clause-derived : goal.returns-clause-derived
returns-clause-derived c = judges_binary-derived

pub returns-clause-not_implied : goal.returns-clause-not_implied
returns-clause-not_implied c = judges_binary-not_implied

pub returns-clause-not_derived : goal.returns-clause-not_derived
returns-clause-not_derived c = judges_binary-not_derived

pub returns-clause-malformed : goal.returns-clause-malformed
returns-clause-malformed c = judges_binary-malformed
