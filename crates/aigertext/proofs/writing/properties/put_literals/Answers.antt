use Rattle.std.proofs.Common.{◌∙◌, arith}
use Rattle.aigertext.proofs.SectionLemmas.{literal_lines_at}
use Rattle.base.proofs.PenLemmas.{write_none, write_more}
use Rattle.aigertext.proofs.writing.properties.put_literals.Goals as goal

pub loop-literal-init : goal.loop-literal-init
loop-literal-init g c = write_none

pub loop-literal-preserved : goal.loop-literal-preserved
loop-literal-preserved g c = write_more c.loop-literal.invariant c.put_number.ensures (literal_lines_at c.loop-literal.literal-index c.args.literals.now _ _ (omega arith) (c.number.ensures ∙ c.literal-item.is))
