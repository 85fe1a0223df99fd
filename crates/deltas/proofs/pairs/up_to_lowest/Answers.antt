use Rattle.std.proofs.Common.{◌-◌, ap, ◌∙◌, bit_xor}
use Rattle.deltas.proofs.PairLemmas.{xor-lowest}
use Rattle.deltas.proofs.pairs.up_to_lowest.Goals as goal

pub returns : goal.returns
returns c place rest is = ap (λ w. bit_xor w (w - 1)) is ∙ xor-lowest place rest
