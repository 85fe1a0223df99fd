use Rattle.base.proofs.PenLemmas.{writes_then}
use Rattle.drup.proofs.FormulaTextLemmas.{clause_parts}
use Rattle.drup.proofs.formula_text.put_clause.Goals as goal

pub returns : goal.returns
returns g c = rw (clause_parts c.args.clause.now) (writes_then c.put_literals.ensures c.put.ensures)
