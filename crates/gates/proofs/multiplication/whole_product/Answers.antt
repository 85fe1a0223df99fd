use Rattle.std.proofs.Common.{◌*◌, length, refl, arith, rules, ◌+◌}
use Rattle.std.proofs.lemmas.Nat.{mul-le}
use Rattle.gates.specs.Made.{RefusesGate}
use Rattle.gates.proofs.LaterLemmas.{IsDefined-of_word, Refuses-weaker, MakesWord-all_whole_rows, MakesLiteral-all_whole_rows}
use Rattle.gates.proofs.GrowthLemmas.{Grows-refl, All-defined-grown}
use Rattle.gates.proofs.BitListLemmas.{MakesWord-weaker}
use Rattle.gates.proofs.ProductLemmas.{MakesWord-first_row}
use Rattle.gates.proofs.LostLemmas.{MakesLiteral-first_row, MakesWord-next_whole_row, MakesLiteral-next_row}
use Rattle.gates.proofs.LiteralLemmas.{Refuses-behind}
use Rattle.gates.proofs.multiplication.whole_product.Goals as goal

pub loop-place-init : goal.loop-place-init
loop-place-init g c =
    let n = length c.args.a.now in
    let bits = c.in_ok-bits.bits.items in
    record {
      bits = MakesWord-weaker _ _ (10 * (n * 1)) (12 * (n * 1)) n _ bits (omega arith)
          (MakesWord-first_row _ _ _ c.index-b-0.result c.args.a.now c.args.b.now bits c.requires.some refl c.requires.equal c.index-b-0.is c.in_ok-bits.ensures.ok);
      lost = MakesLiteral-first_row _ _ _ (12 * (n * 1)) c.index-b-0.result c.args.a.now c.args.b.now bits c.requires.some refl c.requires.equal c.index-b-0.is (omega arith) c.in_ok-bits.ensures.ok;
    }

pub loop-place-preserved : goal.loop-place-preserved
loop-place-preserved g c =
    let so_far = c.loop-place.product in
    let next = c.in_ok-product.product in
    record {
      bits = MakesWord-next_whole_row _ _ _ _ c.loop-place.place c.index-b-place.result c.args.a.now c.args.b.now so_far.bits.items next.bits.items
          c.requires.equal (omega arith) c.index-b-place.is c.loop-place.invariant.bits c.in_ok-product.ensures.bits;
      lost = MakesLiteral-next_row _ _ _ _ c.loop-place.place c.index-b-place.result so_far.lost next.lost c.args.a.now c.args.b.now so_far.bits.items
          c.requires.equal (omega arith) c.index-b-place.is c.loop-place.invariant.bits c.loop-place.invariant.lost c.in_ok-product.ensures.lost;
    }

pub returns-in_err-product-clause-refused : goal.returns-in_err-product-clause-refused
returns-in_err-product-clause-refused g c =
    let n = length c.args.a.now in
    let refused : RefusesGate (g.G.Gates.made c.args.g.now) (g.G.Gates.made c.with_whole_row.new.g) (12 * (n * n)) c.in_err-product.field-0.0 =
    Refuses-behind _ _ _ _ _ (12 * (n * n)) _ (omega (arith, mul-le n (c.loop-place.place + 1) n n (omega arith) (omega (arith, c.requires.equal)))) c.loop-place.invariant.bits.grows c.in_err-product.ensures.refused
    in search rules

pub masked-requires-clause-most : goal.masked-requires-clause-most
masked-requires-clause-most g c = omega (arith, c.requires.most)

pub masked-requires-clause-word : goal.masked-requires-clause-word
masked-requires-clause-word g c = c.requires.left

pub masked-requires-clause-literal : goal.masked-requires-clause-literal
masked-requires-clause-literal g c =
    IsDefined-of_word _ _ 0 c.args.b.now 0 c.index-b-0.result (omega (arith, c.requires.some, c.requires.equal)) c.index-b-0.is c.requires.right (Grows-refl _ 0)

pub with_whole_row-requires-clause-operands : goal.with_whole_row-requires-clause-operands
with_whole_row-requires-clause-operands g c =
    record {
      some = c.requires.some;
      most = c.requires.most;
      equal = c.loop-place.invariant.bits.wide;
      left = All-defined-grown _ _ _ c.loop-place.invariant.bits.grows _ c.requires.left;
      right = c.loop-place.invariant.bits.defined;
    }

pub with_whole_row-requires-clause-lost : goal.with_whole_row-requires-clause-lost
with_whole_row-requires-clause-lost g c = c.loop-place.invariant.lost.defined

pub with_whole_row-requires-clause-literal : goal.with_whole_row-requires-clause-literal
with_whole_row-requires-clause-literal g c =
    IsDefined-of_word _ _ _ c.args.b.now c.loop-place.place c.index-b-place.result (omega (arith, c.requires.equal)) c.index-b-place.is c.requires.right c.loop-place.invariant.bits.grows

pub returns-in_err-bits-clause-refused : goal.returns-in_err-bits-clause-refused
returns-in_err-bits-clause-refused g c =
    let n = length c.args.a.now in
    let refused : RefusesGate (g.G.Gates.made c.args.g.now) (g.G.Gates.made c.masked.new.g) (12 * (n * n)) c.in_err-bits.field-0.0 =
    Refuses-weaker _ _ _ (12 * (n * n)) _ (omega (arith, mul-le 1 n n n c.requires.some (omega arith))) c.in_err-bits.ensures.refused
    in search rules

pub returns-clause-bits : goal.returns-clause-bits
returns-clause-bits g c =
    MakesWord-all_whole_rows _ _ _ c.loop-place.place c.args.a.now c.args.b.now c.loop-place.product.bits.items c.requires.equal (omega (arith, c.requires.equal, c.requires.some)) c.loop-place.invariant.bits

pub returns-clause-lost : goal.returns-clause-lost
returns-clause-lost g c =
    MakesLiteral-all_whole_rows _ _ _ c.loop-place.place c.loop-place.product.lost c.args.a.now c.args.b.now c.requires.equal (omega (arith, c.requires.equal, c.requires.some)) c.loop-place.invariant.lost
