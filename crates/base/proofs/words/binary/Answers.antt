use Rattle.std.proofs.Common.{◌*◌, ◌∙◌, arith}
use Rattle.std.proofs.lemmas.Nat.{or_lt, xor_lt}
use Rattle.base.proofs.WrapLemmas.{cut_twice, wrapped_difference}
use Rattle.base.proofs.words.binary.Goals as goal

pub overflow_sub-result-in-Nor : goal.overflow_sub-result-in-Nor
overflow_sub-result-in-Nor c = omega (arith, or_lt c.args.w c.args.a c.args.b c.requires.left c.requires.right)

pub overflow_sub-result-in-Xnor : goal.overflow_sub-result-in-Xnor
overflow_sub-result-in-Xnor c = omega (arith, xor_lt c.args.w c.args.a c.args.b c.requires.left c.requires.right)

pub returns-in-Sub-clause-value : goal.returns-in-Sub-clause-value
returns-in-Sub-clause-value c =
    rw c.in-Sub.is (c.wrap-in-Sub.ensures ∙ wrapped_difference c.args.w c.args.a c.args.b (omega arith) (omega arith))

pub returns-in-Mul-clause-value : goal.returns-in-Mul-clause-value
returns-in-Mul-clause-value c = rw c.in-Mul.is (c.wrap-in-Mul.ensures ∙ cut_twice c.args.w (c.args.a * c.args.b) (omega arith))
