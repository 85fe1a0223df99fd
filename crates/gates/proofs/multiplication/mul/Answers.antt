use Rattle.std.proofs.Common.{refl, arith, rules, ◌*◌, ◌+◌, length, ℕ, ◌≤◌, ap, ◌∙◌}
use Rattle.std.proofs.lemmas.Nat.{mul-le}
use Rattle.gates.specs.Made.{RefusesGate}
use Rattle.gates.proofs.LaterLemmas.{IsDefined-of_word, Refuses-weaker}
use Rattle.gates.proofs.GrowthLemmas.{Grows-refl, All-defined-grown}
use Rattle.gates.proofs.ProductLemmas.{MakesWord-first_row, MakesWord-next_row, MakesWord-all_rows}
use Rattle.gates.proofs.LiteralLemmas.{Refuses-behind}
use Rattle.gates.proofs.multiplication.mul.Goals as goal

pub loop-place-init : goal.loop-place-init
loop-place-init g c = MakesWord-first_row _ _ _ c.index-b-0.result c.args.a.now c.args.b.now c.in_ok-product.product.items c.requires.some refl c.requires.equal c.index-b-0.is c.in_ok-product.ensures.ok

pub loop-place-preserved : goal.loop-place-preserved
loop-place-preserved g c =
    MakesWord-next_row _ _ _ _ c.loop-place.place c.index-b-place.result c.args.a.now c.args.b.now c.loop-place.product.items c.in_ok-product-2.product.items
    c.requires.equal (omega arith) c.index-b-place.is c.loop-place.invariant (rw c.as_slice.ensures.value at c.in_ok-product-2.ensures.ok)

pub returns-clause-ok : goal.returns-clause-ok
returns-clause-ok g c =
    let inside = c.loop-place.auto.place-end (omega arith) in
    MakesWord-all_rows _ _ _ c.loop-place.place c.args.a.now c.args.b.now c.loop-place.product.items c.requires.equal (omega arith) c.loop-place.invariant

pub returns-in_err-product-2-clause-refused : goal.returns-in_err-product-2-clause-refused
returns-in_err-product-2-clause-refused g c =
    let n = length c.args.a.now in
    let refused : RefusesGate (g.G.Gates.made c.args.g.now) (g.G.Gates.made c.with_row.new.g) (10 * (n * n)) c.in_err-product-2.field-0.0 =
    Refuses-behind _ _ _ _ _ (10 * (n * n)) _ (omega (arith, mul-le n (c.loop-place.place + 1) n n (omega arith) (omega (arith, c.requires.equal)))) c.loop-place.invariant.grows c.in_err-product-2.ensures.refused
    in search rules

-- the gates of the first row fit
few_gates : (n : ℕ) → 1 ≤ n → n ≤ 10 * (n * n)
few_gates n some = omega (arith, mul-le 1 n n n some (omega arith))

pub masked-requires-clause-literal : goal.masked-requires-clause-literal
masked-requires-clause-literal g c =
    IsDefined-of_word _ _ 0 c.args.b.now 0 c.index-b-0.result (omega (arith, c.requires.some, c.requires.equal)) c.index-b-0.is c.requires.right (Grows-refl _ 0)

pub with_row-requires-clause-operands : goal.with_row-requires-clause-operands
with_row-requires-clause-operands g c =
    record {
      some = c.requires.some;
      most = c.requires.most;
      equal = ap length c.as_slice.ensures.value ∙ c.loop-place.invariant.wide;
      left = All-defined-grown _ _ _ c.loop-place.invariant.grows _ c.requires.left;
      right = rw c.as_slice.ensures.value c.loop-place.invariant.defined;
    }

pub with_row-requires-clause-literal : goal.with_row-requires-clause-literal
with_row-requires-clause-literal g c =
    IsDefined-of_word _ _ _ c.args.b.now c.loop-place.place c.index-b-place.result (omega (arith, c.requires.equal)) c.index-b-place.is c.requires.right c.loop-place.invariant.grows

pub returns-in_err-product-clause-refused : goal.returns-in_err-product-clause-refused
returns-in_err-product-clause-refused g c =
    let n = length c.args.a.now in
    let refused : RefusesGate (g.G.Gates.made c.args.g.now) (g.G.Gates.made c.masked.new.g) (10 * (n * n)) c.in_err-product.field-0.0 =
    Refuses-weaker _ _ _ (10 * (n * n)) _ (few_gates n c.requires.some) c.in_err-product.ensures.refused
    in search rules
