use Rattle.rejoin.proofs.SplitLemmas.{split_judged}
use Rattle.rejoin.proofs.laws.split_is_judged_alike.Goals as goal

pub returns : goal.returns
returns c = split_judged
