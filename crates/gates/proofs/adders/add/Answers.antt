use Rattle.std.proofs.Common.{arith, length}
use Rattle.std.proofs.lemmas.Result.{IfOk-weaker}
use Rattle.gates.proofs.SumLemmas.{MakesSum-whole}
use Rattle.gates.proofs.adders.add.Goals as goal

pub returns-clause-ok : goal.returns-clause-ok
returns-clause-ok g c =
    IfOk-weaker c.columns.result _ _
    (λ added makes. MakesSum-whole _ _ _ _ (length c.args.a.now) c.args.a.now c.args.b.now c.args.carry added.sum.items added.into_top added.out (omega arith) (omega (arith, c.requires.operands.equal)) (omega arith) makes)
    c.columns.ensures.ok
