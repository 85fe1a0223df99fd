use Rattle.std.proofs.Common.{◌≡◌, ◌+◌, ◌-◌, ◌%◌, ◌<◌, ap, ap₂, ◌∙◌, bit_and, arith}
use Rattle.std.proofs.lemmas.Nat.{pow_pos}
use Rattle.deltas.proofs.PairLemmas.{and-lowest}
use Rattle.deltas.proofs.pairs.without_lowest.Goals as goal

pub returns-clause-some : goal.returns-clause-some
returns-clause-some c place rest is =
    let some : 0 < c.args.word = omega (arith, is, pow_pos place) in
    let less : (c.args.word + 18446744073709551615) % 18446744073709551616 ≡ c.args.word - 1 = omega (arith, c.ranges.word.fits) in
    ap₂ bit_and is (less ∙ ap (λ w. w - 1) is) ∙ and-lowest place rest
