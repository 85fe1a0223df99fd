use Rattle.std.proofs.Common.{arith}
use Rattle.base.proofs.PenLemmas.{write_none, write_more}
use Rattle.drup.proofs.FormulaTextLemmas.{clauses_at}
use Rattle.drup.proofs.formula_text.put_clauses.Goals as goal

pub loop-k-init : goal.loop-k-init
loop-k-init g c = write_none

pub loop-k-preserved : goal.loop-k-preserved
loop-k-preserved g c =
    write_more c.loop-k.invariant c.put_clause.ensures
    (clauses_at c.loop-k.k c.args.formula.now.clauses c.clause.result.now (omega (arith, c.loop-k-test.true, c.clause_count-k-end.ensures)) c.clause.ensures.clause)
