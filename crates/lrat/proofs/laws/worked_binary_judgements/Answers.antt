use Rattle.std.proofs.Common.{refl}
use Rattle.lrat.proofs.laws.worked_binary_judgements.Goals as goal

pub returns-clause-derived : goal.returns-clause-derived
returns-clause-derived c = refl

pub returns-clause-taken_away : goal.returns-clause-taken_away
returns-clause-taken_away c = refl

pub returns-clause-not_implied : goal.returns-clause-not_implied
returns-clause-not_implied c = refl

pub returns-clause-not_derived : goal.returns-clause-not_derived
returns-clause-not_derived c = refl
