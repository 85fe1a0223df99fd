use Rattle.std.proofs.Common.{◌*◌, length, sym, ◌∙◌, arith, rules, ap}
use Rattle.std.proofs.lemmas.Result.{IfOk-weaker, IfErr-weaker}
use Rattle.gates.specs.Made.{RefusesGate}
use Rattle.gates.proofs.LaterLemmas.{Refuses-weaker}
use Rattle.gates.proofs.LiteralLemmas.{Refuses-behind}
use Rattle.gates.proofs.GrowthLemmas.{All-defined-grown}
use Rattle.gates.proofs.ProductLemmas.{MakesWord-with_row}
use Rattle.gates.proofs.multiplication.with_row.Goals as goal

pub returns-clause-ok : goal.returns-clause-ok
returns-clause-ok g c =
    IfOk-weaker c.sum_bits.result _ _
    (λ bits makes. MakesWord-with_row _ _ _ _ c.args.place c.args.lit c.args.sum.now c.args.a.now c.raised.result.items c.in_ok-row.row.items bits.items
    c.requires.operands.equal c.raised.ensures.wide c.raised.ensures.means (rw c.as_slice.ensures.value at c.in_ok-row.ensures.ok) makes)
    (rw c.as_slice-2.ensures.value at c.sum_bits.ensures.ok)

pub masked-requires-clause-word : goal.masked-requires-clause-word
masked-requires-clause-word g c = rw c.as_slice.ensures.value (c.raised.ensures.defined _ c.requires.operands.left)

pub sum_bits-requires-clause-operands : goal.sum_bits-requires-clause-operands
sum_bits-requires-clause-operands g c =
    record {
      some = omega (arith, c.requires.operands.some, c.requires.operands.equal);
      most = omega (arith, c.requires.operands.most, c.requires.operands.equal);
      equal = ap length c.as_slice-2.ensures.value ∙ c.in_ok-row.ensures.ok.wide ∙ ap length c.as_slice.ensures.value ∙ c.raised.ensures.wide ∙ sym c.requires.operands.equal;
      left = All-defined-grown _ _ _ c.in_ok-row.ensures.ok.grows _ c.requires.operands.right;
      right = rw c.as_slice-2.ensures.value c.in_ok-row.ensures.ok.defined;
    }

pub returns-in_err-row-clause-refused : goal.returns-in_err-row-clause-refused
returns-in_err-row-clause-refused g c =
    let n = length c.args.a.now in
    let refused : RefusesGate (g.G.Gates.made c.args.g.now) (g.G.Gates.made c.masked.new.g) (10 * n) c.in_err-row.field-0.0 =
    Refuses-weaker _ _ _ (10 * n) _ (omega (arith, ap length c.as_slice.ensures.value, c.raised.ensures.wide)) c.in_err-row.ensures.refused
    in search rules

pub returns-clause-refused : goal.returns-clause-refused
returns-clause-refused g c =
    let n = length c.args.a.now in
    IfErr-weaker c.sum_bits.result _ _ (λ e refused. Refuses-behind _ _ _ _ _ (10 * n) e (omega (arith, ap length c.as_slice.ensures.value, c.raised.ensures.wide, c.requires.operands.equal)) c.in_ok-row.ensures.ok.grows refused) c.sum_bits.ensures.refused
