use Rattle.std.proofs.Common.{◌≡◌, ℕ, ◌+◌, ◌-◌, ◌*◌, ◌/◌, ◌%◌, ◌^◌, ◌<◌, ◌≤◌, List, length, get_or, sym, ap, subst, ◌∙◌, arith}
use Rattle.std.specs.List.{AllByRecursion}
use Rattle.pieces.specs.declared.node.Node.{Node}
use Rattle.pieces.specs.Nodes.{MakesWord}
use Rattle.pieces.specs.Cuts.{widths, IsCut}
use Rattle.pieces.specs.Constants.{digits_value, AreConstants}
use Rattle.pieces.proofs.NodeLemmas.{extends_same, extends_twice}
use Rattle.pieces.proofs.CutLemmas.{all_of_size, size_more, widths_more}
use Rattle.pieces.proofs.ConstantLemmas.{digit_at, digit_more, digits_none, digit_fits, constants_more}
use Rattle.pieces.proofs.constants.constant.Goals as goal

pub loop-k-init : goal.loop-k-init
loop-k-init c = record {
  within = omega arith;
  left = omega arith;
  extends = extends_same c.args.maker.now;
  word = digits_none c.args.maker.now c.new-out.result.items (digits_value c.args.digits.now) (c.args.width - c.args.width) (omega arith) c.new-out.ensures.items;
  constants = subst (AreConstants c.args.maker.now) (sym c.new-out.ensures.items) tt;
  full = λ some. subst (λ (l : List Node). AllByRecursion (λ w. w ≡ 64) (widths l)) (sym c.new-out.ensures.items) tt;
  cut = λ some. subst (λ (l : List Node). IsCut 64 (widths l)) (sym c.new-out.ensures.items) tt;
}

pub constant-requires-clause-least : goal.constant-requires-clause-least
constant-requires-clause-least c = omega (arith, c.min-taken.ensures, c.loop-k.invariant.left, c.loop-k-test.true, c.requires.few)

pub constant-requires-clause-most : goal.constant-requires-clause-most
constant-requires-clause-most c = omega (arith, c.min-taken.ensures)

pub constant-requires-clause-fits : goal.constant-requires-clause-fits
constant-requires-clause-fits c = subst (λ (v : ℕ). v < 2 ^ c.min-taken.result) (sym c.low_bits-digit.ensures) (digit_fits _ c.min-taken.result)

pub loop-k-preserved : goal.loop-k-preserved
loop-k-preserved c =
    let inv = c.loop-k.invariant in
    let k = c.loop-k.k in
    let left = c.loop-k.left in
    let taken = c.min-taken.result in
    let r = c.in_ok-node.node in
    let out = c.loop-k.out.items in
    let done : c.args.width - left ≡ 64 * k = omega (arith, inv.left, c.loop-k-test.true, c.requires.few) in
    let few : taken ≤ left = omega (arith, c.min-taken.ensures) in
    let some : 1 ≤ left = omega (arith, inv.left, c.loop-k-test.true, c.requires.few) in
    let most : taken ≤ 64 = omega (arith, c.min-taken.ensures) in
    let wide = c.in_ok-node.ensures.node.wide in
    let bits : taken + (c.args.width - left) ≡ c.args.width - (left - taken) = omega (arith, few, inv.left) in
    let fit : (i : ℕ) → i < length c.args.digits.now → get_or c.args.digits.now i 0 < 2 ^ 64 = λ i h. (let f = c.type_inv.digits i in omega (arith, f)) in
    let at : digits_value c.args.digits.now / 2 ^ (c.args.width - left) % 2 ^ taken ≡ c.low_bits-digit.result =
    ap (λ (j : ℕ). digits_value c.args.digits.now / 2 ^ j % 2 ^ taken) done ∙ digit_at c.args.digits.now k taken fit c.loop-k-test.true most ∙ sym c.low_bits-digit.ensures in
    record {
      within = omega (arith, c.loop-k-test.true);
      left = omega (arith, inv.left, c.min-taken.ensures, c.loop-k-test.true, c.requires.few, c.requires.enough);
      extends = extends_twice c.args.maker.now c.loop-k.maker c.constant.new.self inv.extends c.in_ok-node.ensures.extends;
      word = digit_more c.loop-k.maker c.constant.new.self out c.keep.new.list.items (digits_value c.args.digits.now) (c.args.width - left) taken (c.args.width - (left - taken)) c.low_bits-digit.result r bits at c.in_ok-node.ensures.extends inv.word c.in_ok-node.ensures.node c.in_ok-keep.ensures.ok;
      constants = constants_more c.loop-k.maker c.constant.new.self out c.keep.new.list.items r c.low_bits-digit.result c.in_ok-node.ensures.extends inv.constants c.in_ok-node.ensures.constant c.in_ok-keep.ensures.ok;
      full = λ more.
          let whole : taken ≡ 64 = omega (arith, c.min-taken.ensures, more) in
          subst (λ (l : List ℕ). AllByRecursion (λ w. w ≡ 64) l) (sym (ap widths c.in_ok-keep.ensures.ok ∙ widths_more out r)) (size_more 64 r.width (widths out) (inv.full some) (wide ∙ whole));
      cut = λ none.
          let least : 1 ≤ r.width = omega (arith, wide, c.min-taken.ensures, some) in
          let small : r.width ≤ 64 = omega (arith, wide, most) in
          subst (IsCut 64) (sym (ap widths c.in_ok-keep.ensures.ok ∙ widths_more out r)) (all_of_size 64 r.width (widths out) (inv.full some) least small);
    }

pub returns-clause-word : goal.returns-clause-word
returns-clause-word c =
    let all : c.args.width - c.loop-k.left ≡ c.args.width = omega (arith, c.loop-k-test.false, c.loop-k.invariant.left, c.requires.enough) in
    subst (λ (k : ℕ). MakesWord c.loop-k.maker k (λ g. digits_value c.args.digits.now % 2 ^ k) c.loop-k.out.items) all c.loop-k.invariant.word

pub returns-clause-cut : goal.returns-clause-cut
returns-clause-cut c = c.loop-k.invariant.cut (omega (arith, c.loop-k-test.false, c.loop-k.invariant.left, c.requires.enough))
