use Rattle.std.proofs.Common.{rules, ◌*◌, length, refl, arith, sym, ◌∙◌, ap}
use Rattle.gates.specs.Made.{RefusesGate}
use Rattle.gates.proofs.LaterLemmas.{Refuses-weaker}
use Rattle.gates.proofs.GrowthLemmas.{Grows-trans, IsDefined-grown, All-defined-grown}
use Rattle.gates.proofs.LiteralLemmas.{Refuses-behind}
use Rattle.gates.proofs.LostLemmas.{MakesWord-whole_row, MakesLiteral-whole_row}
use Rattle.gates.proofs.multiplication.with_whole_row.Goals as goal

pub returns-in_err-sum-clause-refused : goal.returns-in_err-sum-clause-refused
returns-in_err-sum-clause-refused g c =
    let refused : RefusesGate (g.G.Gates.made c.args.g.now) (g.G.Gates.made c.add.new.g) (12 * length c.args.a.now) c.in_err-sum.field-0.0 =
    Refuses-behind _ _ _ _ _ (12 * length c.args.a.now) _ (omega (arith, ap length c.as_slice.ensures.value, ap length c.as_slice-2.ensures.value, c.raised.ensures.wide, c.requires.operands.equal)) c.in_ok-row.ensures.ok.grows c.in_err-sum.ensures.refused
    in search rules

pub returns-in_err-above-clause-refused : goal.returns-in_err-above-clause-refused
returns-in_err-above-clause-refused g c =
    let refused : RefusesGate (g.G.Gates.made c.args.g.now) (g.G.Gates.made c.has_bit_from.new.g) (12 * length c.args.a.now) c.in_err-above.field-0.0 =
    Refuses-behind _ _ _ _ _ (12 * length c.args.a.now) _ (omega (arith, ap length c.as_slice.ensures.value, ap length c.as_slice-2.ensures.value, c.raised.ensures.wide, c.requires.operands.equal, c.requires.inside))
    (Grows-trans _ _ _ _ _ c.in_ok-row.ensures.ok.grows c.in_ok-sum.ensures.ok.grows) c.in_err-above.ensures.refused
    in search rules

pub returns-in_err-cut-clause-refused : goal.returns-in_err-cut-clause-refused
returns-in_err-cut-clause-refused g c =
    let refused : RefusesGate (g.G.Gates.made c.args.g.now) (g.G.Gates.made c.and.new.self) (12 * length c.args.a.now) c.in_err-cut.field-0.0 =
    Refuses-behind _ _ _ _ _ (12 * length c.args.a.now) _ (omega (arith, ap length c.as_slice.ensures.value, ap length c.as_slice-2.ensures.value, c.raised.ensures.wide, c.requires.operands.equal, c.requires.inside, c.requires.some))
    (Grows-trans _ _ _ _ _ c.in_ok-row.ensures.ok.grows (Grows-trans _ _ _ _ _ c.in_ok-sum.ensures.ok.grows c.in_ok-above.ensures.ok.grows)) c.in_err-cut.ensures.refused
    in search rules

pub returns-in_err-more-clause-refused : goal.returns-in_err-more-clause-refused
returns-in_err-more-clause-refused g c =
    let refused : RefusesGate (g.G.Gates.made c.args.g.now) (g.G.Gates.made c.disjunction.new.g) (12 * length c.args.a.now) c.in_err-more.field-0.0 =
    Refuses-behind _ _ _ _ _ (12 * length c.args.a.now) _ (omega (arith, ap length c.as_slice.ensures.value, ap length c.as_slice-2.ensures.value, c.raised.ensures.wide, c.requires.operands.equal, c.requires.inside, c.requires.some))
    (Grows-trans _ _ _ _ _ c.in_ok-row.ensures.ok.grows (Grows-trans _ _ _ _ _ c.in_ok-sum.ensures.ok.grows (Grows-trans _ _ _ _ _ c.in_ok-above.ensures.ok.grows c.in_ok-cut.ensures.ok.grows))) c.in_err-more.ensures.refused
    in search rules

pub returns-in_err-lost-clause-refused : goal.returns-in_err-lost-clause-refused
returns-in_err-lost-clause-refused g c =
    let refused : RefusesGate (g.G.Gates.made c.args.g.now) (g.G.Gates.made c.disjunction-2.new.g) (12 * length c.args.a.now) c.in_err-lost.field-0.0 =
    Refuses-behind _ _ _ _ _ (12 * length c.args.a.now) _ (omega (arith, ap length c.as_slice.ensures.value, ap length c.as_slice-2.ensures.value, c.raised.ensures.wide, c.requires.operands.equal, c.requires.inside, c.requires.some))
    (Grows-trans _ _ _ _ _ c.in_ok-row.ensures.ok.grows (Grows-trans _ _ _ _ _ c.in_ok-sum.ensures.ok.grows (Grows-trans _ _ _ _ _ c.in_ok-above.ensures.ok.grows (Grows-trans _ _ _ _ _ c.in_ok-cut.ensures.ok.grows c.in_ok-more.ensures.ok.grows)))) c.in_err-lost.ensures.refused
    in search rules

pub returns-clause-bits : goal.returns-clause-bits
returns-clause-bits g c =
    MakesWord-whole_row _ _ _ _ _ _ _ _ c.args.place c.args.lit c.args.so_far.now.lost c.args.so_far.now.bits.items c.args.a.now c.raised.result.items c.in_ok-row.row.items c.in_ok-sum.sum.sum.items
    c.in_ok-sum.sum.into_top c.in_ok-sum.sum.out c.in_ok-above.above c.in_ok-cut.cut c.in_ok-more.more c.in_ok-lost.lost
    c.requires.some c.requires.inside refl c.requires.operands.equal c.raised.ensures.wide c.raised.ensures.means (rw c.as_slice.ensures.value at c.in_ok-row.ensures.ok) (rw (c.as_slice-2.ensures.value, c.as_slice-3.ensures.value) at c.in_ok-sum.ensures.ok)
    c.in_ok-above.ensures.ok c.in_ok-cut.ensures.ok c.in_ok-more.ensures.ok c.in_ok-lost.ensures.ok

pub returns-clause-lost : goal.returns-clause-lost
returns-clause-lost g c =
    MakesLiteral-whole_row _ _ _ _ _ _ _ _ c.args.place c.args.lit c.args.so_far.now.lost c.args.so_far.now.bits.items c.args.a.now c.raised.result.items c.in_ok-row.row.items c.in_ok-sum.sum.sum.items
    c.in_ok-sum.sum.into_top c.in_ok-sum.sum.out c.in_ok-above.above c.in_ok-cut.cut c.in_ok-more.more c.in_ok-lost.lost
    c.requires.some c.requires.inside refl c.requires.operands.equal c.raised.ensures.wide c.raised.ensures.means (rw c.as_slice.ensures.value at c.in_ok-row.ensures.ok) (rw (c.as_slice-2.ensures.value, c.as_slice-3.ensures.value) at c.in_ok-sum.ensures.ok)
    c.in_ok-above.ensures.ok c.in_ok-cut.ensures.ok c.in_ok-more.ensures.ok c.in_ok-lost.ensures.ok

pub masked-requires-clause-most : goal.masked-requires-clause-most
masked-requires-clause-most g c = omega (arith, ap length c.as_slice.ensures.value, c.raised.ensures.wide, c.requires.operands.most)

pub masked-requires-clause-word : goal.masked-requires-clause-word
masked-requires-clause-word g c = rw c.as_slice.ensures.value (c.raised.ensures.defined _ c.requires.operands.left)

pub masked-requires-clause-literal : goal.masked-requires-clause-literal
masked-requires-clause-literal g c = c.requires.literal

pub add-requires-clause-operands : goal.add-requires-clause-operands
add-requires-clause-operands g c =
    record {
      some = omega (arith, ap length c.as_slice-2.ensures.value, c.requires.operands.some, c.requires.operands.equal);
      most = omega (arith, ap length c.as_slice-2.ensures.value, c.requires.operands.most, c.requires.operands.equal);
      equal = ap length c.as_slice-3.ensures.value ∙ c.in_ok-row.ensures.ok.wide ∙ ap length c.as_slice.ensures.value ∙ c.raised.ensures.wide ∙ sym (ap length c.as_slice-2.ensures.value ∙ c.requires.operands.equal);
      left = rw c.as_slice-2.ensures.value (All-defined-grown _ _ _ c.in_ok-row.ensures.ok.grows _ c.requires.operands.right);
      right = rw c.as_slice-3.ensures.value c.in_ok-row.ensures.ok.defined;
    }

pub has_bit_from-requires-clause-most : goal.has_bit_from-requires-clause-most
has_bit_from-requires-clause-most g c = c.requires.operands.most

pub has_bit_from-requires-clause-inside : goal.has_bit_from-requires-clause-inside
has_bit_from-requires-clause-inside g c = omega arith

pub has_bit_from-requires-clause-defined : goal.has_bit_from-requires-clause-defined
has_bit_from-requires-clause-defined g c =
    All-defined-grown _ _ _ (Grows-trans _ _ _ _ _ c.in_ok-row.ensures.ok.grows c.in_ok-sum.ensures.ok.grows) _ c.requires.operands.left

pub and-requires-clause-left : goal.and-requires-clause-left
and-requires-clause-left g c = c.in_ok-above.ensures.ok.defined

pub and-requires-clause-right : goal.and-requires-clause-right
and-requires-clause-right g c =
    IsDefined-grown _ _ _ (Grows-trans _ _ _ _ _ c.in_ok-row.ensures.ok.grows (Grows-trans _ _ _ _ _ c.in_ok-sum.ensures.ok.grows c.in_ok-above.ensures.ok.grows)) _ c.requires.literal

pub disjunction-requires-clause-left : goal.disjunction-requires-clause-left
disjunction-requires-clause-left g c = c.in_ok-cut.ensures.ok.defined

pub disjunction-requires-clause-right : goal.disjunction-requires-clause-right
disjunction-requires-clause-right g c =
    IsDefined-grown _ _ _ (Grows-trans _ _ _ _ _ c.in_ok-above.ensures.ok.grows c.in_ok-cut.ensures.ok.grows) _ c.in_ok-sum.ensures.ok.out_defined

pub disjunction-requires-2-clause-left : goal.disjunction-requires-2-clause-left
disjunction-requires-2-clause-left g c =
    IsDefined-grown _ _ _ (Grows-trans _ _ _ _ _ c.in_ok-row.ensures.ok.grows (Grows-trans _ _ _ _ _ c.in_ok-sum.ensures.ok.grows (Grows-trans _ _ _ _ _ c.in_ok-above.ensures.ok.grows (Grows-trans _ _ _ _ _ c.in_ok-cut.ensures.ok.grows c.in_ok-more.ensures.ok.grows)))) _ c.requires.lost

pub disjunction-requires-2-clause-right : goal.disjunction-requires-2-clause-right
disjunction-requires-2-clause-right g c = c.in_ok-more.ensures.ok.defined

pub returns-in_err-row-clause-refused : goal.returns-in_err-row-clause-refused
returns-in_err-row-clause-refused g c =
    let refused : RefusesGate (g.G.Gates.made c.args.g.now) (g.G.Gates.made c.masked.new.g) (12 * length c.args.a.now) c.in_err-row.field-0.0 =
    Refuses-weaker _ _ _ (12 * length c.args.a.now) _ (omega (arith, ap length c.as_slice.ensures.value, c.raised.ensures.wide)) c.in_err-row.ensures.refused
    in search rules
