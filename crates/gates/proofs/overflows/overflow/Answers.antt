use Rattle.std.proofs.Common.{length, ◌+◌, ◌*◌, ◌∙◌, arith, rules}
use Rattle.std.proofs.lemmas.Result.{IfOk-weaker, IfErr-weaker}
use Rattle.gates.specs.Bound.{binary_bound}
use Rattle.gates.specs.Made.{RefusesGate}
use Rattle.gates.proofs.GrowthLemmas.{MakesWord-not}
use Rattle.gates.proofs.LaterLemmas.{Refuses-weaker}
use Rattle.gates.proofs.LostLemmas.{MakesWord-umulo}
use Rattle.gates.proofs.OverflowLemmas.{MakesWord-uaddo, MakesWord-usubo, MakesWord-saddo, MakesWord-ssubo}
use Rattle.gates.proofs.overflows.overflow.Goals as goal

pub less-requires : goal.less-requires
less-requires g c =
    let negated = MakesWord-not _ c.args.a.now c.as_slice.result.now c.requires.operands.left (c.as_slice.ensures.value ∙ c.negation.ensures) in
    record {
      some = omega (arith, negated.wide, c.requires.operands.some);
      most = omega (arith, negated.wide, c.requires.operands.most);
      equal = omega (arith, negated.wide, c.requires.operands.equal);
      left = negated.defined;
      right = c.requires.operands.right;
    }

pub returns-in-Uaddo-clause-ok : goal.returns-in-Uaddo-clause-ok
returns-in-Uaddo-clause-ok g c =
    rw c.in-Uaddo.is (IfOk-weaker c.less.result _ _ (λ l makes. MakesWord-uaddo _ _ c.args.a.now c.as_slice.result.now c.args.b.now l (c.as_slice.ensures.value ∙ c.negation.ensures) makes) c.less.ensures.ok)

pub returns-in-Uaddo-clause-refused : goal.returns-in-Uaddo-clause-refused
returns-in-Uaddo-clause-refused g c =
    let negated = MakesWord-not _ c.args.a.now c.as_slice.result.now c.requires.operands.left (c.as_slice.ensures.value ∙ c.negation.ensures) in
    rw c.in-Uaddo.is (IfErr-weaker c.less.result _ _ (λ e refused. Refuses-weaker _ _ _ (9 * length c.args.a.now) e (omega (arith, negated.wide)) refused) c.less.ensures.refused)

pub returns-in-Saddo-clause-ok : goal.returns-in-Saddo-clause-ok
returns-in-Saddo-clause-ok g c = rw c.in-Saddo.is (IfOk-weaker c.sum_overflow.result _ _ (λ l makes. MakesWord-saddo _ _ c.args.a.now c.args.b.now l makes) c.sum_overflow.ensures.ok)

pub returns-in-Saddo-clause-refused : goal.returns-in-Saddo-clause-refused
returns-in-Saddo-clause-refused g c = rw c.in-Saddo.is c.sum_overflow.ensures.refused

pub returns-in-Usubo-clause-ok : goal.returns-in-Usubo-clause-ok
returns-in-Usubo-clause-ok g c = rw c.in-Usubo.is (IfOk-weaker c.less-in-Usubo.result _ _ (λ l makes. MakesWord-usubo _ _ c.args.a.now c.args.b.now l makes) c.less-in-Usubo.ensures.ok)

pub returns-in-Usubo-clause-refused : goal.returns-in-Usubo-clause-refused
returns-in-Usubo-clause-refused g c =
    rw c.in-Usubo.is (IfErr-weaker c.less-in-Usubo.result _ _ (λ e refused. Refuses-weaker _ _ _ (9 * length c.args.a.now) e (omega arith) refused) c.less-in-Usubo.ensures.refused)

pub sum_overflow-requires-in-Ssubo-clause-operands : goal.sum_overflow-requires-in-Ssubo-clause-operands
sum_overflow-requires-in-Ssubo-clause-operands g c =
    let negated = MakesWord-not _ c.args.b.now c.as_slice-in-Ssubo.result.now c.requires.operands.right (c.as_slice-in-Ssubo.ensures.value ∙ c.negation-in-Ssubo.ensures) in
    record {
      some = c.requires.operands.some;
      most = c.requires.operands.most;
      equal = omega (arith, negated.wide, c.requires.operands.equal);
      left = c.requires.operands.left;
      right = negated.defined;
    }

pub returns-in-Ssubo-clause-ok : goal.returns-in-Ssubo-clause-ok
returns-in-Ssubo-clause-ok g c =
    rw c.in-Ssubo.is (IfOk-weaker c.sum_overflow-in-Ssubo.result _ _ (λ l makes. MakesWord-ssubo _ _ c.args.a.now c.args.b.now c.as_slice-in-Ssubo.result.now l c.requires.operands.some c.requires.operands.equal (c.as_slice-in-Ssubo.ensures.value ∙ c.negation-in-Ssubo.ensures) makes) c.sum_overflow-in-Ssubo.ensures.ok)

pub returns-in-Ssubo-clause-refused : goal.returns-in-Ssubo-clause-refused
returns-in-Ssubo-clause-refused g c = rw c.in-Ssubo.is c.sum_overflow-in-Ssubo.ensures.refused

pub returns-in_ok-whole_product-in-Umulo-clause-ok : goal.returns-in_ok-whole_product-in-Umulo-clause-ok
returns-in_ok-whole_product-in-Umulo-clause-ok g c =
    rw c.in-Umulo.is (MakesWord-umulo _ _ c.args.a.now c.args.b.now c.in_ok-whole_product-in-Umulo.field-0.lost c.in_ok-whole_product-in-Umulo.ensures.lost)

pub returns-in_err-whole_product-in-Umulo-clause-refused : goal.returns-in_err-whole_product-in-Umulo-clause-refused
returns-in_err-whole_product-in-Umulo-clause-refused g c =
    let n = length c.args.a.now in
    let refused : RefusesGate (g.G.Gates.made c.args.g.now) (g.G.Gates.made c.whole_product.new.g) (binary_bound c.args.op n) c.in_err-whole_product-in-Umulo.field-0.0 =
    rw c.in-Umulo.is (Refuses-weaker _ _ _ (40 * (n * n) + n) _ (omega arith) c.in_err-whole_product-in-Umulo.ensures.refused)
    in search rules
