use Rattle.certificates.proofs.PutLemmas.{written_more, literals_at}
use Rattle.certificates.proofs.obligations.variables_from.Goals as goal

pub loop-place-preserved : goal.loop-place-preserved
loop-place-preserved c = written_more _ _ _ _ _ _ c.in-Ok.ensures.items (literals_at c.args.first c.loop-place.place c.args.count c.loop-place-test.true) c.loop-place.invariant
