use Rattle.std.proofs.Common.{◌≡◌, ◌+◌, ◌-◌, ◌%◌, ◌^◌, ap, ◌∙◌, arith}
use Rattle.base.proofs.WrapLemmas.{wrapped_difference}
use Rattle.base.proofs.words.unary.Goals as goal

pub returns-in-Dec-clause-value : goal.returns-in-Dec-clause-value
returns-in-Dec-clause-value c =
    rw c.in-Dec.is (c.wrap-in-Dec.ensures ∙ wrapped_difference c.args.w c.args.a 1 (omega arith) (omega arith))

pub returns-in-Neg-clause-value : goal.returns-in-Neg-clause-value
returns-in-Neg-clause-value c =
    let opposite : c.wrapping_neg.result ≡ (0 + (2 ^ 64 - c.args.a)) % 2 ^ 64 = omega arith in
    let word = wrapped_difference c.args.w 0 c.args.a (omega arith) (omega arith) in
    rw c.in-Neg.is (c.wrap-in-Neg.ensures ∙ ap (λ x. x % 2 ^ c.args.w) opposite ∙ word)
