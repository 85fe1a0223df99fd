use Rattle.aigertext.proofs.PassOverLemmas.{sum_more}
use Rattle.aigertext.proofs.reading.ascii.justice_literals.Goals as goal

pub loop-index-preserved : goal.loop-index-preserved
loop-index-preserved c = sum_more c.args.lists.now.justice c.loop-index.index c.loop-index.sum c.justice.result.now c.justice.ensures.items c.loop-index.invariant
