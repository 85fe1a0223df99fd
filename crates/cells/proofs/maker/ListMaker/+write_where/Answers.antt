use Rattle.std.proofs.Common.{◌≡◌, ℕ, ◌+◌, ◌*◌, ◌%◌, ◌^◌, ◌<◌, [], ◌∷◌, length, Some, IfOk, inl, inr, refl, sym, ap, subst, ◌∙◌, arith}
use Rattle.base.specs.Operator.{ite_value}
use Rattle.btor2.specs.Items.{node_width}
use Rattle.wide.specs.WideModels.{greatest_width}
use Rattle.full.specs.Cells.{write_value}
use Rattle.full.specs.Gives.{GivesWord}
use Rattle.cells.proofs.LineLemmas.{longer, new_may, extends_same, extends_twice}
use Rattle.cells.proofs.BitLemmas.{both_most, bits_stay, lower_bits, top_bit}
use Rattle.cells.proofs.WriteLemmas.{goes, goes_twice, node_given, half_node, whole_node, write_given, one_written, write_handed, bit_may, new_wider, to_halves, to_bit, to_part}
use Rattle.cells.proofs.maker.ListMaker.+write_where.Goals as goal

pub returns-in_default-clause-node : goal.returns-in_default-clause-node
returns-in_default-clause-node t c =
    let none : length c.args.bits.now ≡ 0 = c.in_default.ensures.cases in
    let wide : node_width c.args.self.now c.args.array ≡ Some c.args.element = subst (λ (m : ℕ). node_width c.args.self.now c.args.array ≡ Some (2 ^ m * c.args.element)) none c.requires.array ∙ ap (λ (m : ℕ). Some m) (omega arith) in
    subst (λ (m : ℕ). IfOk c.ite.result (GivesWord c.ite.new.self (2 ^ m * c.args.element) (λ g. ite_value (g c.args.condition) (write_value c.args.element (g c.args.array) (g c.args.index % 2 ^ m) (g c.args.word)) (g c.args.array)))) (sym none)
    (one_written c.args.self.now c.ite.new.self c.args.array c.args.condition c.args.index c.args.word c.args.element c.ite.result (goes c.args.self.now c.ite.new.self (c.args.condition ∷ c.args.word ∷ c.args.array ∷ []) c.ite.ensures.extends) wide c.ite.ensures.node)

pub returns-in_default-clause-extends : goal.returns-in_default-clause-extends
returns-in_default-clause-extends t c =
    let h = write_handed c.args.array c.args.condition c.args.word c.args.bits.now in
    extends_twice c.args.self.now c.args.self.now c.ite.new.self h (c.args.condition ∷ c.args.word ∷ c.args.array ∷ []) (extends_same c.args.self.now h) c.ite.ensures.extends (inr (inr (inl refl)), (inr (inr (inr (inl refl))), (inr (inl refl), tt)))

pub returns-in_err-high-clause-extends : goal.returns-in_err-high-clause-extends
returns-in_err-high-clause-extends t c =
    let e1 = to_halves c.args.self.now c.halves.new.self c.args.array c.args.condition c.args.word c.args.bits.now c.halves.ensures.extends in
    e1

pub and-requires-clause-a : goal.and-requires-clause-a
and-requires-clause-a t c =
    node_given c.args.self.now c.halves.new.self c.args.condition 1 (goes c.args.self.now c.halves.new.self (c.args.array ∷ []) c.halves.ensures.extends) c.requires.condition

pub and-requires-clause-b : goal.and-requires-clause-b
and-requires-clause-b t c =
    node_given c.args.self.now c.halves.new.self c.in-Some.bit.now.one 1 (goes c.args.self.now c.halves.new.self (c.args.array ∷ []) c.halves.ensures.extends) (top_bit c.args.self.now c.args.index c.args.bits.now c.in-Some.lower.now c.in-Some.bit.now c.in-Some.ensures.cases.0 c.requires.bits).one.width

pub returns-in_err-one-clause-extends : goal.returns-in_err-one-clause-extends
returns-in_err-one-clause-extends t c =
    let may = bit_may (length c.args.self.now) c.args.array c.args.condition c.args.word c.args.bits.now c.in-Some.lower.now c.in-Some.bit.now c.in-Some.ensures.cases.0 in
    let e1 = to_halves c.args.self.now c.halves.new.self c.args.array c.args.condition c.args.word c.args.bits.now c.halves.ensures.extends in
    let e2 = to_bit c.args.self.now c.halves.new.self c.and.new.self c.args.array c.args.condition c.args.word c.in-Some.bit.now.one c.args.bits.now e1 c.and.ensures.extends may.0 in
    e2

pub and-requires-2-clause-a : goal.and-requires-2-clause-a
and-requires-2-clause-a t c =
    let h = write_handed c.args.array c.args.condition c.args.word c.args.bits.now in
    let may = bit_may (length c.args.self.now) c.args.array c.args.condition c.args.word c.args.bits.now c.in-Some.lower.now c.in-Some.bit.now c.in-Some.ensures.cases.0 in
    let e1 = to_halves c.args.self.now c.halves.new.self c.args.array c.args.condition c.args.word c.args.bits.now c.halves.ensures.extends in
    let e2 = to_bit c.args.self.now c.halves.new.self c.and.new.self c.args.array c.args.condition c.args.word c.in-Some.bit.now.one c.args.bits.now e1 c.and.ensures.extends may.0 in
    node_given c.args.self.now c.and.new.self c.args.condition 1 (goes c.args.self.now c.and.new.self h e2) c.requires.condition

pub and-requires-2-clause-b : goal.and-requires-2-clause-b
and-requires-2-clause-b t c =
    let h = write_handed c.args.array c.args.condition c.args.word c.args.bits.now in
    let may = bit_may (length c.args.self.now) c.args.array c.args.condition c.args.word c.args.bits.now c.in-Some.lower.now c.in-Some.bit.now c.in-Some.ensures.cases.0 in
    let e1 = to_halves c.args.self.now c.halves.new.self c.args.array c.args.condition c.args.word c.args.bits.now c.halves.ensures.extends in
    let e2 = to_bit c.args.self.now c.halves.new.self c.and.new.self c.args.array c.args.condition c.args.word c.in-Some.bit.now.one c.args.bits.now e1 c.and.ensures.extends may.0 in
    node_given c.args.self.now c.and.new.self c.in-Some.bit.now.zero 1 (goes c.args.self.now c.and.new.self h e2) (top_bit c.args.self.now c.args.index c.args.bits.now c.in-Some.lower.now c.in-Some.bit.now c.in-Some.ensures.cases.0 c.requires.bits).zero.width

pub returns-in_err-zero-clause-extends : goal.returns-in_err-zero-clause-extends
returns-in_err-zero-clause-extends t c =
    let may = bit_may (length c.args.self.now) c.args.array c.args.condition c.args.word c.args.bits.now c.in-Some.lower.now c.in-Some.bit.now c.in-Some.ensures.cases.0 in
    let e1 = to_halves c.args.self.now c.halves.new.self c.args.array c.args.condition c.args.word c.args.bits.now c.halves.ensures.extends in
    let e2 = to_bit c.args.self.now c.halves.new.self c.and.new.self c.args.array c.args.condition c.args.word c.in-Some.bit.now.one c.args.bits.now e1 c.and.ensures.extends may.0 in
    let e3 = to_bit c.args.self.now c.and.new.self c.and-2.new.self c.args.array c.args.condition c.args.word c.in-Some.bit.now.zero c.args.bits.now e2 c.and-2.ensures.extends may.1 in
    e3

pub write_where-requires : goal.write_where-requires
write_where-requires t c =
    let h = write_handed c.args.array c.args.condition c.args.word c.args.bits.now in
    let may = bit_may (length c.args.self.now) c.args.array c.args.condition c.args.word c.args.bits.now c.in-Some.lower.now c.in-Some.bit.now c.in-Some.ensures.cases.0 in
    let e1 = to_halves c.args.self.now c.halves.new.self c.args.array c.args.condition c.args.word c.args.bits.now c.halves.ensures.extends in
    let e2 = to_bit c.args.self.now c.halves.new.self c.and.new.self c.args.array c.args.condition c.args.word c.in-Some.bit.now.one c.args.bits.now e1 c.and.ensures.extends may.0 in
    let e3 = to_bit c.args.self.now c.and.new.self c.and-2.new.self c.args.array c.args.condition c.args.word c.in-Some.bit.now.zero c.args.bits.now e2 c.and-2.ensures.extends may.1 in
    let falls : length c.in-Some.lower.now < t = omega (arith, c.in-Some.ensures.cases.1, c.decreases) in
    let high = whole_node c.and-2.new.self (length c.in-Some.lower.now) c.args.element c.array_width-half.result c.in_ok-high.high c.array_width-half.ensures (node_given c.halves.new.self c.and-2.new.self c.in_ok-high.high c.array_width-half.result (goes_twice c.halves.new.self c.and.new.self c.and-2.new.self (goes c.halves.new.self c.and.new.self (c.args.condition ∷ c.in-Some.bit.now.one ∷ []) c.and.ensures.extends) (goes c.and.new.self c.and-2.new.self (c.args.condition ∷ c.in-Some.bit.now.zero ∷ []) c.and-2.ensures.extends)) c.in_ok-high.ensures.high.width) in
    let one = node_given c.and.new.self c.and-2.new.self c.in_ok-one.one 1 (goes c.and.new.self c.and-2.new.self (c.args.condition ∷ c.in-Some.bit.now.zero ∷ []) c.and-2.ensures.extends) c.in_ok-one.ensures.node.width in
    let bits = bits_stay c.args.self.now c.and-2.new.self h c.args.index c.in-Some.lower.now e3 (lower_bits c.args.self.now c.args.index c.args.bits.now c.in-Some.lower.now c.in-Some.bit.now c.in-Some.ensures.cases.0 c.requires.bits) in
    (falls, (high, (one, (bits, node_given c.args.self.now c.and-2.new.self c.args.word c.args.element (goes c.args.self.now c.and-2.new.self h e3) c.requires.word))))

pub returns-in_err-above-clause-extends : goal.returns-in_err-above-clause-extends
returns-in_err-above-clause-extends t c =
    let h = write_handed c.args.array c.args.condition c.args.word c.args.bits.now in
    let may = bit_may (length c.args.self.now) c.args.array c.args.condition c.args.word c.args.bits.now c.in-Some.lower.now c.in-Some.bit.now c.in-Some.ensures.cases.0 in
    let e1 = to_halves c.args.self.now c.halves.new.self c.args.array c.args.condition c.args.word c.args.bits.now c.halves.ensures.extends in
    let e2 = to_bit c.args.self.now c.halves.new.self c.and.new.self c.args.array c.args.condition c.args.word c.in-Some.bit.now.one c.args.bits.now e1 c.and.ensures.extends may.0 in
    let e3 = to_bit c.args.self.now c.and.new.self c.and-2.new.self c.args.array c.args.condition c.args.word c.in-Some.bit.now.zero c.args.bits.now e2 c.and-2.ensures.extends may.1 in
    let e4 = to_part c.args.self.now c.and-2.new.self c.write_where.new.self c.args.array c.args.condition c.args.word c.in_ok-high.high c.in_ok-one.one c.args.bits.now c.in-Some.lower.now c.in-Some.bit.now c.in-Some.ensures.cases.0 e3 c.write_where.ensures.extends
    (new_wider c.args.self.now c.args.self.now h c.in_ok-high.high (omega arith) c.in_ok-high.ensures.new.0) (new_may c.args.self.now c.halves.new.self c.and.new.self h c.in_ok-one.one (longer c.args.self.now c.halves.new.self h e1) c.in_ok-one.ensures.new) in
    e4

pub write_where-requires-2 : goal.write_where-requires-2
write_where-requires-2 t c =
    let h = write_handed c.args.array c.args.condition c.args.word c.args.bits.now in
    let may = bit_may (length c.args.self.now) c.args.array c.args.condition c.args.word c.args.bits.now c.in-Some.lower.now c.in-Some.bit.now c.in-Some.ensures.cases.0 in
    let e1 = to_halves c.args.self.now c.halves.new.self c.args.array c.args.condition c.args.word c.args.bits.now c.halves.ensures.extends in
    let e2 = to_bit c.args.self.now c.halves.new.self c.and.new.self c.args.array c.args.condition c.args.word c.in-Some.bit.now.one c.args.bits.now e1 c.and.ensures.extends may.0 in
    let e3 = to_bit c.args.self.now c.and.new.self c.and-2.new.self c.args.array c.args.condition c.args.word c.in-Some.bit.now.zero c.args.bits.now e2 c.and-2.ensures.extends may.1 in
    let e4 = to_part c.args.self.now c.and-2.new.self c.write_where.new.self c.args.array c.args.condition c.args.word c.in_ok-high.high c.in_ok-one.one c.args.bits.now c.in-Some.lower.now c.in-Some.bit.now c.in-Some.ensures.cases.0 e3 c.write_where.ensures.extends
    (new_wider c.args.self.now c.args.self.now h c.in_ok-high.high (omega arith) c.in_ok-high.ensures.new.0) (new_may c.args.self.now c.halves.new.self c.and.new.self h c.in_ok-one.one (longer c.args.self.now c.halves.new.self h e1) c.in_ok-one.ensures.new) in
    let falls : length c.in-Some.lower.now < t = omega (arith, c.in-Some.ensures.cases.1, c.decreases) in
    let low = whole_node c.write_where.new.self (length c.in-Some.lower.now) c.args.element c.array_width-half.result c.in_ok-high.low c.array_width-half.ensures (node_given c.halves.new.self c.write_where.new.self c.in_ok-high.low c.array_width-half.result (goes_twice c.halves.new.self c.and-2.new.self c.write_where.new.self (goes_twice c.halves.new.self c.and.new.self c.and-2.new.self (goes c.halves.new.self c.and.new.self (c.args.condition ∷ c.in-Some.bit.now.one ∷ []) c.and.ensures.extends) (goes c.and.new.self c.and-2.new.self (c.args.condition ∷ c.in-Some.bit.now.zero ∷ []) c.and-2.ensures.extends)) (goes c.and-2.new.self c.write_where.new.self (write_handed c.in_ok-high.high c.in_ok-one.one c.args.word c.in-Some.lower.now) c.write_where.ensures.extends)) c.in_ok-high.ensures.low.width) in
    let off = node_given c.and-2.new.self c.write_where.new.self c.in_ok-zero.zero 1 (goes c.and-2.new.self c.write_where.new.self (write_handed c.in_ok-high.high c.in_ok-one.one c.args.word c.in-Some.lower.now) c.write_where.ensures.extends) c.in_ok-zero.ensures.node.width in
    let bits = bits_stay c.args.self.now c.write_where.new.self h c.args.index c.in-Some.lower.now e4 (lower_bits c.args.self.now c.args.index c.args.bits.now c.in-Some.lower.now c.in-Some.bit.now c.in-Some.ensures.cases.0 c.requires.bits) in
    (falls, (low, (off, (bits, node_given c.args.self.now c.write_where.new.self c.args.word c.args.element (goes c.args.self.now c.write_where.new.self h e4) c.requires.word))))

pub returns-in_err-below-clause-extends : goal.returns-in_err-below-clause-extends
returns-in_err-below-clause-extends t c =
    let h = write_handed c.args.array c.args.condition c.args.word c.args.bits.now in
    let may = bit_may (length c.args.self.now) c.args.array c.args.condition c.args.word c.args.bits.now c.in-Some.lower.now c.in-Some.bit.now c.in-Some.ensures.cases.0 in
    let e1 = to_halves c.args.self.now c.halves.new.self c.args.array c.args.condition c.args.word c.args.bits.now c.halves.ensures.extends in
    let e2 = to_bit c.args.self.now c.halves.new.self c.and.new.self c.args.array c.args.condition c.args.word c.in-Some.bit.now.one c.args.bits.now e1 c.and.ensures.extends may.0 in
    let e3 = to_bit c.args.self.now c.and.new.self c.and-2.new.self c.args.array c.args.condition c.args.word c.in-Some.bit.now.zero c.args.bits.now e2 c.and-2.ensures.extends may.1 in
    let e4 = to_part c.args.self.now c.and-2.new.self c.write_where.new.self c.args.array c.args.condition c.args.word c.in_ok-high.high c.in_ok-one.one c.args.bits.now c.in-Some.lower.now c.in-Some.bit.now c.in-Some.ensures.cases.0 e3 c.write_where.ensures.extends
    (new_wider c.args.self.now c.args.self.now h c.in_ok-high.high (omega arith) c.in_ok-high.ensures.new.0) (new_may c.args.self.now c.halves.new.self c.and.new.self h c.in_ok-one.one (longer c.args.self.now c.halves.new.self h e1) c.in_ok-one.ensures.new) in
    let e5 = to_part c.args.self.now c.write_where.new.self c.write_where-2.new.self c.args.array c.args.condition c.args.word c.in_ok-high.low c.in_ok-zero.zero c.args.bits.now c.in-Some.lower.now c.in-Some.bit.now c.in-Some.ensures.cases.0 e4 c.write_where-2.ensures.extends
    (new_wider c.args.self.now c.args.self.now h c.in_ok-high.low (omega arith) c.in_ok-high.ensures.new.1.0) (new_may c.args.self.now c.and.new.self c.and-2.new.self h c.in_ok-zero.zero (longer c.args.self.now c.and.new.self h e2) c.in_ok-zero.ensures.new) in
    e5

pub concat-requires-clause-high : goal.concat-requires-clause-high
concat-requires-clause-high t c =
    half_node c.write_where-2.new.self (length c.in-Some.lower.now) c.args.element c.array_width-half.result c.in_ok-above.above c.array_width-half.ensures (node_given c.write_where.new.self c.write_where-2.new.self c.in_ok-above.above (2 ^ length c.in-Some.lower.now * c.args.element) (goes c.write_where.new.self c.write_where-2.new.self (write_handed c.in_ok-high.low c.in_ok-zero.zero c.args.word c.in-Some.lower.now) c.write_where-2.ensures.extends) c.in_ok-above.ensures.node.width)

pub concat-requires-clause-most : goal.concat-requires-clause-most
concat-requires-clause-most t c =
    both_most (length c.in-Some.lower.now) (length c.in-Some.lower.now + 1) c.args.element c.array_width-half.result greatest_width refl c.array_width-half.ensures c.know_array.ensures.most

pub returns-clause-node : goal.returns-clause-node
returns-clause-node t c =
    let wide = subst (λ (m : ℕ). node_width c.args.self.now c.args.array ≡ Some (2 ^ m * c.args.element)) (sym c.in-Some.ensures.cases.1) c.requires.array in
    subst (λ (m : ℕ). IfOk c.concat.result (GivesWord c.concat.new.self (2 ^ m * c.args.element) (λ g. ite_value (g c.args.condition) (write_value c.args.element (g c.args.array) (g c.args.index % 2 ^ m) (g c.args.word)) (g c.args.array)))) c.in-Some.ensures.cases.1
    (write_given c.args.self.now c.halves.new.self c.and.new.self c.and-2.new.self c.write_where.new.self c.write_where-2.new.self c.concat.new.self (length c.in-Some.lower.now) c.args.element c.args.array c.args.condition c.args.index c.args.word c.array_width-half.result c.in_ok-high.high c.in_ok-high.low c.in_ok-one.one c.in_ok-zero.zero
    c.in_ok-above.above c.in_ok-below.below c.in-Some.bit.now c.concat.result (goes c.args.self.now c.halves.new.self (c.args.array ∷ []) c.halves.ensures.extends) (goes c.halves.new.self c.and.new.self (c.args.condition ∷ c.in-Some.bit.now.one ∷ []) c.and.ensures.extends) (goes c.and.new.self c.and-2.new.self (c.args.condition ∷ c.in-Some.bit.now.zero ∷ []) c.and-2.ensures.extends)
    (goes c.and-2.new.self c.write_where.new.self (write_handed c.in_ok-high.high c.in_ok-one.one c.args.word c.in-Some.lower.now) c.write_where.ensures.extends) (goes c.write_where.new.self c.write_where-2.new.self (write_handed c.in_ok-high.low c.in_ok-zero.zero c.args.word c.in-Some.lower.now) c.write_where-2.ensures.extends)
    (goes c.write_where-2.new.self c.concat.new.self (c.in_ok-above.above ∷ c.in_ok-below.below ∷ []) c.concat.ensures.extends) c.know_array.ensures.some c.array_width-half.ensures wide c.requires.condition (top_bit c.args.self.now c.args.index c.args.bits.now c.in-Some.lower.now c.in-Some.bit.now c.in-Some.ensures.cases.0 c.requires.bits)
    c.in_ok-high.ensures.high c.in_ok-high.ensures.low c.in_ok-one.ensures.node c.in_ok-zero.ensures.node c.in_ok-above.ensures.node c.in_ok-below.ensures.node c.concat.ensures.node)

pub returns-clause-extends : goal.returns-clause-extends
returns-clause-extends t c =
    let h = write_handed c.args.array c.args.condition c.args.word c.args.bits.now in
    let may = bit_may (length c.args.self.now) c.args.array c.args.condition c.args.word c.args.bits.now c.in-Some.lower.now c.in-Some.bit.now c.in-Some.ensures.cases.0 in
    let e1 = to_halves c.args.self.now c.halves.new.self c.args.array c.args.condition c.args.word c.args.bits.now c.halves.ensures.extends in
    let e2 = to_bit c.args.self.now c.halves.new.self c.and.new.self c.args.array c.args.condition c.args.word c.in-Some.bit.now.one c.args.bits.now e1 c.and.ensures.extends may.0 in
    let e3 = to_bit c.args.self.now c.and.new.self c.and-2.new.self c.args.array c.args.condition c.args.word c.in-Some.bit.now.zero c.args.bits.now e2 c.and-2.ensures.extends may.1 in
    let e4 = to_part c.args.self.now c.and-2.new.self c.write_where.new.self c.args.array c.args.condition c.args.word c.in_ok-high.high c.in_ok-one.one c.args.bits.now c.in-Some.lower.now c.in-Some.bit.now c.in-Some.ensures.cases.0 e3 c.write_where.ensures.extends
    (new_wider c.args.self.now c.args.self.now h c.in_ok-high.high (omega arith) c.in_ok-high.ensures.new.0) (new_may c.args.self.now c.halves.new.self c.and.new.self h c.in_ok-one.one (longer c.args.self.now c.halves.new.self h e1) c.in_ok-one.ensures.new) in
    let e5 = to_part c.args.self.now c.write_where.new.self c.write_where-2.new.self c.args.array c.args.condition c.args.word c.in_ok-high.low c.in_ok-zero.zero c.args.bits.now c.in-Some.lower.now c.in-Some.bit.now c.in-Some.ensures.cases.0 e4 c.write_where-2.ensures.extends
    (new_wider c.args.self.now c.args.self.now h c.in_ok-high.low (omega arith) c.in_ok-high.ensures.new.1.0) (new_may c.args.self.now c.and.new.self c.and-2.new.self h c.in_ok-zero.zero (longer c.args.self.now c.and.new.self h e2) c.in_ok-zero.ensures.new) in
    extends_twice c.args.self.now c.write_where-2.new.self c.concat.new.self h (c.in_ok-above.above ∷ c.in_ok-below.below ∷ []) e5 c.concat.ensures.extends (
      new_may c.args.self.now c.and-2.new.self c.write_where.new.self h c.in_ok-above.above (longer c.args.self.now c.and-2.new.self h e3) c.in_ok-above.ensures.new,
      (new_may c.args.self.now c.write_where.new.self c.write_where-2.new.self h c.in_ok-below.below (longer c.args.self.now c.write_where.new.self h e4) c.in_ok-below.ensures.new, tt),
    )
