use Rattle.deltas.proofs.PairLemmas.{values-is}
use Rattle.deltas.proofs.pairs.values.Goals as goal

pub returns : goal.returns
returns c = values-is c.args.word
