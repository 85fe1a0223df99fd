use Rattle.std.proofs.Common.{refl}
use Rattle.std.specs.Fmt.{digits}
use Rattle.drup.proofs.laws.worked_formula_text.Goals as goal

pub returns-clause-two_clauses : goal.returns-clause-two_clauses
unfolding digits
returns-clause-two_clauses c = refl

pub returns-clause-no_clauses : goal.returns-clause-no_clauses
unfolding digits
returns-clause-no_clauses c = refl
