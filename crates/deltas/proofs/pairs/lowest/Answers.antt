use Rattle.std.proofs.Common.{arith}
use Rattle.deltas.proofs.PairLemmas.{zeros-lowest}
use Rattle.deltas.proofs.pairs.lowest.Goals as goal

pub returns-clause-place : goal.returns-clause-place
returns-clause-place c place rest is = zeros-lowest c.args.word place rest c.requires (omega (arith, c.ranges.word.fits)) is
