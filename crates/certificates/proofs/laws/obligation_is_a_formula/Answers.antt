use Rattle.certificates.proofs.FormulaLemmas.{is_formula}
use Rattle.certificates.proofs.laws.obligation_is_a_formula.Goals as goal

pub returns : goal.returns
returns c = is_formula
