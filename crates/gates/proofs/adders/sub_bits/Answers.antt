use Rattle.std.proofs.Common.{◌∙◌, arith}
use Rattle.std.proofs.lemmas.Result.{IfOk-weaker}
use Rattle.gates.proofs.GrowthLemmas.{MakesWord-not}
use Rattle.gates.proofs.SumLemmas.{MakesWord-subtracted}
use Rattle.gates.proofs.adders.sub_bits.Goals as goal

pub sum_bits-requires-clause-operands : goal.sum_bits-requires-clause-operands
sum_bits-requires-clause-operands g c =
    let negated = MakesWord-not _ c.args.b.now c.as_slice.result.now c.requires.right (c.as_slice.ensures.value ∙ c.negation.ensures) in
    record {
      some = c.requires.some;
      most = omega (arith, c.requires.most);
      equal = omega (arith, negated.wide, c.requires.equal);
      left = c.requires.left;
      right = negated.defined;
    }

pub returns-clause-ok : goal.returns-clause-ok
returns-clause-ok g c =
    IfOk-weaker c.sum_bits.result _ _ (λ bits makes. MakesWord-subtracted _ _ c.args.a.now c.args.b.now c.as_slice.result.now bits.items c.requires.equal (c.as_slice.ensures.value ∙ c.negation.ensures) makes) c.sum_bits.ensures.ok
