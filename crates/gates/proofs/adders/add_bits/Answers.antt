use Rattle.std.proofs.lemmas.Result.{IfOk-weaker}
use Rattle.gates.proofs.SumLemmas.{MakesWord-added}
use Rattle.gates.proofs.adders.add_bits.Goals as goal

pub returns-clause-ok : goal.returns-clause-ok
returns-clause-ok g c = IfOk-weaker c.sum_bits.result _ _ (λ bits makes. MakesWord-added _ _ c.args.a.now c.args.b.now bits.items makes) c.sum_bits.ensures.ok
