use Rattle.aigertext.proofs.SectionLemmas.{list_lines_at}
use Rattle.base.proofs.PenLemmas.{write_none, write_more}
use Rattle.aigertext.proofs.writing.properties.put_lists.Goals as goal

pub loop-index-init : goal.loop-index-init
loop-index-init g c = write_none

pub loop-index-preserved : goal.loop-index-preserved
loop-index-preserved g c = write_more c.loop-index.invariant c.put_literals.ensures (list_lines_at c.loop-index.index c.args.circuit.now.justice c.justice.result.now c.justice.ensures.items)
