use Rattle.std.proofs.Common.{◌-◌, ap, ◌∙◌, bit_and}
use Rattle.deltas.proofs.PairLemmas.{ends-eight}
use Rattle.deltas.proofs.pairs.ends.Goals as goal

pub returns : goal.returns
returns c bytes eight are is = ap (λ w. bit_and (18446744073709551615 - w) 9259542123273814144) is ∙ ends-eight bytes eight are
