use Rattle.base.proofs.PenLemmas.{writes_then}
use Rattle.drup.proofs.formula_text.write_formula.Goals as goal

pub returns : goal.returns
returns g c =
    let w = c.finish.ensures _ _ _ c.new-pen.ensures.kept c.new-pen.ensures.well (writes_then c.put_header.ensures c.put_clauses.ensures) in
    record { ok = w.ok; err = w.err; failures = w.failures }
