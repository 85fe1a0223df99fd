use Rattle.rejoin.proofs.AlikeLemmas.{alike_judged}
use Rattle.rejoin.proofs.laws.alike_is_judged_alike.Goals as goal

pub returns : goal.returns
returns c = alike_judged
