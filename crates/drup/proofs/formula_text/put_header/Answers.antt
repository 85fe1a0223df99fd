use Rattle.std.proofs.Common.{◌∙◌}
use Rattle.base.proofs.PenLemmas.{writes_then}
use Rattle.drup.proofs.FormulaTextLemmas.{header_parts}
use Rattle.drup.proofs.formula_text.put_header.Goals as goal

pub returns : goal.returns
returns g c =
    let variables = rw (c.from.ensures ∙ c.variables.ensures.value) at c.put_number.ensures in
    let clauses = rw c.clause_count.ensures at c.put_number-2.ensures in
    rw (header_parts c.args.formula.now) (writes_then c.put.ensures (writes_then variables (writes_then c.put-2.ensures (writes_then clauses c.put-3.ensures))))
