use Rattle.std.proofs.lemmas.List.Elements.{All-take}
use Rattle.std.proofs.lemmas.List.{length-take-le}
use Rattle.std.proofs.Common.{length, take, refl, ap, ◌∙◌, rules, arith, ◌*◌, ◌+◌, sym}
use Rattle.aiger.specs.Net.{IsDefined}
use Rattle.gates.specs.Made.{RefusesGate}
use Rattle.gates.proofs.LaterLemmas.{IsDefined-not, Refuses-weaker}
use Rattle.gates.proofs.QuotientLemmas.{MakesQuotientRow-by_carry}
use Rattle.gates.proofs.LiteralLemmas.{Refuses-behind}
use Rattle.gates.proofs.GrowthLemmas.{Grows-trans, IsDefined-grown, All-defined-grown}
use Rattle.gates.proofs.division.next_row.Goals as goal

pub returns-clause-ok : goal.returns-clause-ok
returns-clause-ok g c =
    let dividend = c.args.dividend.now in
    let b = c.args.b.now in
    let reduced = c.in_ok-reduced.reduced in
    MakesQuotientRow-by_carry _ _ _ _ _ dividend b (take (length dividend) b) reduced.sum.items reduced.into_top reduced.out c.in_ok-above.above c.in_ok-bit.bit c.in_ok-remainder.remainder.items
    c.requires.inside refl c.in_ok-reduced.ensures.ok c.in_ok-above.ensures.ok (rw c.not.ensures at c.in_ok-bit.ensures.ok) (rw c.as_slice.ensures.value at c.in_ok-remainder.ensures.ok)

pub returns-in_err-above-clause-refused : goal.returns-in_err-above-clause-refused
returns-in_err-above-clause-refused g c =
    let n = length c.args.b.now in
    let refused : RefusesGate (g.G.Gates.made c.args.g.now) (g.G.Gates.made c.has_bit_from.new.g) (12 * n + 9) c.in_err-above.field-0.0 =
    Refuses-behind _ _ _ _ _ (12 * n + 9) _ (omega (arith, c.requires.inside)) c.in_ok-reduced.ensures.ok.grows c.in_err-above.ensures.refused
    in search rules

pub returns-in_err-bit-clause-refused : goal.returns-in_err-bit-clause-refused
returns-in_err-bit-clause-refused g c =
    let n = length c.args.b.now in
    let refused : RefusesGate (g.G.Gates.made c.args.g.now) (g.G.Gates.made c.and.new.self) (12 * n + 9) c.in_err-bit.field-0.0 =
    Refuses-behind _ _ _ _ _ (12 * n + 9) _ (omega (arith, c.requires.inside)) (Grows-trans _ _ _ _ _ c.in_ok-reduced.ensures.ok.grows c.in_ok-above.ensures.ok.grows) c.in_err-bit.ensures.refused
    in search rules

pub returns-in_err-remainder-clause-refused : goal.returns-in_err-remainder-clause-refused
returns-in_err-remainder-clause-refused g c =
    let n = length c.args.b.now in
    let refused : RefusesGate (g.G.Gates.made c.args.g.now) (g.G.Gates.made c.choose.new.g) (12 * n + 9) c.in_err-remainder.field-0.0 =
    Refuses-behind _ _ _ _ _ (12 * n + 9) _ (omega (arith, ap length c.as_slice.ensures.value, c.requires.inside, c.in_ok-reduced.ensures.ok.wide)) (Grows-trans _ _ _ _ _ c.in_ok-reduced.ensures.ok.grows (Grows-trans _ _ _ _ _ c.in_ok-above.ensures.ok.grows c.in_ok-bit.ensures.ok.grows)) c.in_err-remainder.ensures.refused
    in search rules

pub difference-requires : goal.difference-requires
difference-requires g c =
    record {
      some = c.requires.some;
      most = omega (arith, c.requires.inside, c.requires.most);
      equal = length-take-le (length c.args.dividend.now) c.args.b.now c.requires.inside;
      left = c.requires.left;
      right = All-take (IsDefined (g.G.Gates.made c.args.g.now)) (length c.args.dividend.now) c.args.b.now c.requires.right;
    }

pub has_bit_from-requires-clause-defined : goal.has_bit_from-requires-clause-defined
has_bit_from-requires-clause-defined g c = All-defined-grown _ _ _ c.in_ok-reduced.ensures.ok.grows _ c.requires.right

pub and-requires-clause-left : goal.and-requires-clause-left
and-requires-clause-left g c = IsDefined-grown _ _ _ c.in_ok-above.ensures.ok.grows _ c.in_ok-reduced.ensures.ok.out_defined

pub and-requires-clause-right : goal.and-requires-clause-right
and-requires-clause-right g c = IsDefined-not _ c.in_ok-above.above _ c.not.ensures c.in_ok-above.ensures.ok.defined

pub choose-requires-clause-most : goal.choose-requires-clause-most
choose-requires-clause-most g c = omega (arith, ap length c.as_slice.ensures.value, c.in_ok-reduced.ensures.ok.wide, c.requires.inside, c.requires.most)

pub choose-requires-clause-equal : goal.choose-requires-clause-equal
choose-requires-clause-equal g c = sym (ap length c.as_slice.ensures.value ∙ c.in_ok-reduced.ensures.ok.wide)

pub choose-requires-clause-condition : goal.choose-requires-clause-condition
choose-requires-clause-condition g c = c.in_ok-bit.ensures.ok.defined

pub choose-requires-clause-then : goal.choose-requires-clause-then
choose-requires-clause-then g c =
    rw c.as_slice.ensures.value (All-defined-grown _ _ _ (Grows-trans _ _ _ _ _ c.in_ok-above.ensures.ok.grows c.in_ok-bit.ensures.ok.grows) _ c.in_ok-reduced.ensures.ok.sum_defined)

pub choose-requires-clause-otherwise : goal.choose-requires-clause-otherwise
choose-requires-clause-otherwise g c =
    All-defined-grown _ _ _ (Grows-trans _ _ _ _ _ c.in_ok-reduced.ensures.ok.grows (Grows-trans _ _ _ _ _ c.in_ok-above.ensures.ok.grows c.in_ok-bit.ensures.ok.grows)) _ c.requires.left

pub returns-in_err-reduced-clause-refused : goal.returns-in_err-reduced-clause-refused
returns-in_err-reduced-clause-refused g c =
    let n = length c.args.b.now in
    let refused : RefusesGate (g.G.Gates.made c.args.g.now) (g.G.Gates.made c.difference.new.g) (12 * n + 9) c.in_err-reduced.field-0.0 =
    Refuses-weaker _ _ _ (12 * n + 9) _ (omega (arith, c.requires.inside)) c.in_err-reduced.ensures.refused
    in search rules
