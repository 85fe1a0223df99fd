use Rattle.std.proofs.Common.{◌∙◌, arith}
use Rattle.gates.proofs.GrowthLemmas.{MakesWord-not}
use Rattle.gates.proofs.adders.difference.Goals as goal

pub add-requires-clause-operands : goal.add-requires-clause-operands
add-requires-clause-operands g c =
    let negated = MakesWord-not _ c.args.b.now c.as_slice.result.now c.requires.right (c.as_slice.ensures.value ∙ c.negation.ensures) in
    record {
      some = c.requires.some;
      most = c.requires.most;
      equal = omega (arith, negated.wide);
      left = c.requires.left;
      right = negated.defined;
    }

pub returns-clause-ok : goal.returns-clause-ok
returns-clause-ok g c = rw (c.as_slice.ensures.value ∙ c.negation.ensures) at c.add.ensures.ok
