use Rattle.std.proofs.Common.{arith}
use Rattle.base.proofs.PenLemmas.{write_none, write_more, writes_line}
use Rattle.drup.proofs.FormulaTextLemmas.{literals_at}
use Rattle.drup.proofs.formula_text.put_literals.Goals as goal

pub loop-literal-init : goal.loop-literal-init
loop-literal-init g c = write_none

pub loop-literal-preserved : goal.loop-literal-preserved
loop-literal-preserved g c =
    write_more c.loop-literal.invariant (rw c.make_literal.ensures at (writes_line {p = c.loop-literal.pen} c.put_line.ensures)) (literals_at c.loop-literal.literal-index c.args.literals.now _ (omega arith))
