use Rattle.std.proofs.Common.{bit_or, ap, ◌∙◌}
use Rattle.std.proofs.lemmas.Nat.{or_shifted, shl_whole}
use Rattle.base.proofs.words.concat.Goals as goal

pub returns-clause-value : goal.returns-clause-value
returns-clause-value c =
    let shifted = shl_whole c.args.a c.args.wa c.args.wb 64 c.requires.high c.requires.most in
    simp c.bits.ensures.same (ap (λ x. bit_or x c.args.b) shifted ∙ or_shifted c.args.a c.args.wb c.args.b c.requires.low)
