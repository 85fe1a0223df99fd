use Rattle.std.proofs.Common.{◌≡◌, ℕ, ◌+◌, ◌-◌, ◌*◌, ◌^◌, [], ◌∷◌, ◌++◌, length, Some, IfOk, inl, inr, refl, sym, ap, subst, ◌∙◌, arith}
use Rattle.btor2.specs.Items.{node_width}
use Rattle.wide.specs.WideModels.{greatest_width}
use Rattle.full.specs.Cells.{write_value}
use Rattle.full.specs.Gives.{GivesWord}
use Rattle.cells.specs.Lines.{MayName}
use Rattle.cells.proofs.LineLemmas.{longer, new_may, extends_same, extends_twice}
use Rattle.cells.proofs.BitLemmas.{both_most, bits_stay, lower_bits, top_bit, ids_lower, ids_top}
use Rattle.cells.proofs.ReadLemmas.{half_wide}
use Rattle.cells.proofs.WriteLemmas.{goes, goes_twice, node_given, half_node, whole_node, write_whole, write_handed, new_wider, part_of_whole}
use Rattle.cells.proofs.maker.ListMaker.write.Goals as goal

pub halves-requires-clause-array : goal.halves-requires-clause-array
halves-requires-clause-array c =
    let all : c.in_ok-bits.bits.items ≡ c.in-Some.lower.now ++ c.in-Some.bit.now ∷ [] = sym c.deref.ensures.value ∙ c.in-Some.ensures.cases.0 in
    let len : length c.in-Some.lower.now + 1 ≡ c.args.index_width = c.in-Some.ensures.cases.1 ∙ ap length c.deref.ensures.value ∙ c.in_ok-bits.ensures.many in
    let low_is : c.args.index_width - 1 ≡ length c.in-Some.lower.now = omega (arith, len) in
    let is : c.array_width-half.result ≡ 2 ^ length c.in-Some.lower.now * c.args.element_width = c.array_width-half.ensures ∙ ap (λ (m : ℕ). 2 ^ m * c.args.element_width) low_is in
    let h = c.args.array ∷ c.args.index ∷ c.args.word ∷ [] in
    let e1 = extends_twice c.args.self.now c.args.self.now c.bits.new.self h (c.args.index ∷ []) (extends_same c.args.self.now h) c.in_ok-bits.ensures.extends (inr (inr (inl refl)), tt) in
    half_wide c.args.self.now c.bits.new.self h c.args.array (length c.in-Some.lower.now) c.args.element_width c.array_width-half.result e1 is (subst (λ (m : ℕ). node_width c.args.self.now c.args.array ≡ Some (2 ^ m * c.args.element_width)) (sym len) c.requires.array)

pub returns-in_err-high-clause-extends : goal.returns-in_err-high-clause-extends
returns-in_err-high-clause-extends c =
    let h = c.args.array ∷ c.args.index ∷ c.args.word ∷ [] in
    let e1 = extends_twice c.args.self.now c.args.self.now c.bits.new.self h (c.args.index ∷ []) (extends_same c.args.self.now h) c.in_ok-bits.ensures.extends (inr (inr (inl refl)), tt) in
    let e2 = extends_twice c.args.self.now c.bits.new.self c.halves.new.self h (c.args.array ∷ []) e1 c.halves.ensures.extends (inr (inl refl), tt) in
    e2

pub write_where-requires-clause-condition : goal.write_where-requires-clause-condition
write_where-requires-clause-condition c =
    let all : c.in_ok-bits.bits.items ≡ c.in-Some.lower.now ++ c.in-Some.bit.now ∷ [] = sym c.deref.ensures.value ∙ c.in-Some.ensures.cases.0 in
    let bit = top_bit c.bits.new.self c.args.index c.in_ok-bits.bits.items c.in-Some.lower.now c.in-Some.bit.now all c.in_ok-bits.ensures.bits in
    node_given c.bits.new.self c.halves.new.self c.in-Some.bit.now.one 1 (goes c.bits.new.self c.halves.new.self (c.args.array ∷ []) c.halves.ensures.extends) bit.one.width

pub write_where-requires-clause-bits : goal.write_where-requires-clause-bits
write_where-requires-clause-bits c =
    let all : c.in_ok-bits.bits.items ≡ c.in-Some.lower.now ++ c.in-Some.bit.now ∷ [] = sym c.deref.ensures.value ∙ c.in-Some.ensures.cases.0 in
    bits_stay c.bits.new.self c.halves.new.self (c.args.array ∷ []) c.args.index c.in-Some.lower.now c.halves.ensures.extends (lower_bits c.bits.new.self c.args.index c.in_ok-bits.bits.items c.in-Some.lower.now c.in-Some.bit.now all c.in_ok-bits.ensures.bits)

pub write_where-requires-clause-word : goal.write_where-requires-clause-word
write_where-requires-clause-word c =
    let h = c.args.array ∷ c.args.index ∷ c.args.word ∷ [] in
    let e1 = extends_twice c.args.self.now c.args.self.now c.bits.new.self h (c.args.index ∷ []) (extends_same c.args.self.now h) c.in_ok-bits.ensures.extends (inr (inr (inl refl)), tt) in
    let e2 = extends_twice c.args.self.now c.bits.new.self c.halves.new.self h (c.args.array ∷ []) e1 c.halves.ensures.extends (inr (inl refl), tt) in
    node_given c.args.self.now c.halves.new.self c.args.word c.args.element_width (goes c.args.self.now c.halves.new.self h e2) c.requires.word

pub returns-in_err-above-clause-extends : goal.returns-in_err-above-clause-extends
returns-in_err-above-clause-extends c =
    let all : c.in_ok-bits.bits.items ≡ c.in-Some.lower.now ++ c.in-Some.bit.now ∷ [] = sym c.deref.ensures.value ∙ c.in-Some.ensures.cases.0 in
    let h = c.args.array ∷ c.args.index ∷ c.args.word ∷ [] in
    let top = ids_top (MayName (length c.args.self.now) []) c.in_ok-bits.bits.items c.in-Some.lower.now c.in-Some.bit.now all c.in_ok-bits.ensures.new in
    let low_ids = ids_lower (MayName (length c.args.self.now) []) c.in_ok-bits.bits.items c.in-Some.lower.now c.in-Some.bit.now all c.in_ok-bits.ensures.new in
    let e1 = extends_twice c.args.self.now c.args.self.now c.bits.new.self h (c.args.index ∷ []) (extends_same c.args.self.now h) c.in_ok-bits.ensures.extends (inr (inr (inl refl)), tt) in
    let e2 = extends_twice c.args.self.now c.bits.new.self c.halves.new.self h (c.args.array ∷ []) e1 c.halves.ensures.extends (inr (inl refl), tt) in
    let e3 = part_of_whole c.args.self.now c.halves.new.self c.write_where.new.self c.args.array c.args.index c.args.word c.in_ok-high.high c.in-Some.bit.now.one c.in-Some.lower.now e2 c.write_where.ensures.extends (new_wider c.args.self.now c.bits.new.self h c.in_ok-high.high (longer c.args.self.now c.bits.new.self h e1) c.in_ok-high.ensures.new.0) (new_wider c.args.self.now c.args.self.now h c.in-Some.bit.now.one (omega arith) top.0) low_ids in
    e3

pub write_where-requires-2-clause-array : goal.write_where-requires-2-clause-array
write_where-requires-2-clause-array c =
    let len : length c.in-Some.lower.now + 1 ≡ c.args.index_width = c.in-Some.ensures.cases.1 ∙ ap length c.deref.ensures.value ∙ c.in_ok-bits.ensures.many in
    let low_is : c.args.index_width - 1 ≡ length c.in-Some.lower.now = omega (arith, len) in
    let is : c.array_width-half.result ≡ 2 ^ length c.in-Some.lower.now * c.args.element_width = c.array_width-half.ensures ∙ ap (λ (m : ℕ). 2 ^ m * c.args.element_width) low_is in
    whole_node c.write_where.new.self (length c.in-Some.lower.now) c.args.element_width c.array_width-half.result c.in_ok-high.low is (node_given c.halves.new.self c.write_where.new.self c.in_ok-high.low c.array_width-half.result (goes c.halves.new.self c.write_where.new.self (write_handed c.in_ok-high.high c.in-Some.bit.now.one c.args.word c.in-Some.lower.now) c.write_where.ensures.extends) c.in_ok-high.ensures.low.width)

pub write_where-requires-2-clause-condition : goal.write_where-requires-2-clause-condition
write_where-requires-2-clause-condition c =
    let all : c.in_ok-bits.bits.items ≡ c.in-Some.lower.now ++ c.in-Some.bit.now ∷ [] = sym c.deref.ensures.value ∙ c.in-Some.ensures.cases.0 in
    let bit = top_bit c.bits.new.self c.args.index c.in_ok-bits.bits.items c.in-Some.lower.now c.in-Some.bit.now all c.in_ok-bits.ensures.bits in
    node_given c.bits.new.self c.write_where.new.self c.in-Some.bit.now.zero 1 (goes_twice c.bits.new.self c.halves.new.self c.write_where.new.self (goes c.bits.new.self c.halves.new.self (c.args.array ∷ []) c.halves.ensures.extends) (goes c.halves.new.self c.write_where.new.self (write_handed c.in_ok-high.high c.in-Some.bit.now.one c.args.word c.in-Some.lower.now) c.write_where.ensures.extends)) bit.zero.width

pub write_where-requires-2-clause-bits : goal.write_where-requires-2-clause-bits
write_where-requires-2-clause-bits c =
    let all : c.in_ok-bits.bits.items ≡ c.in-Some.lower.now ++ c.in-Some.bit.now ∷ [] = sym c.deref.ensures.value ∙ c.in-Some.ensures.cases.0 in
    bits_stay c.halves.new.self c.write_where.new.self (write_handed c.in_ok-high.high c.in-Some.bit.now.one c.args.word c.in-Some.lower.now) c.args.index c.in-Some.lower.now c.write_where.ensures.extends (bits_stay c.bits.new.self c.halves.new.self (c.args.array ∷ []) c.args.index c.in-Some.lower.now c.halves.ensures.extends (lower_bits c.bits.new.self c.args.index c.in_ok-bits.bits.items c.in-Some.lower.now c.in-Some.bit.now all c.in_ok-bits.ensures.bits))

pub write_where-requires-2-clause-word : goal.write_where-requires-2-clause-word
write_where-requires-2-clause-word c =
    let all : c.in_ok-bits.bits.items ≡ c.in-Some.lower.now ++ c.in-Some.bit.now ∷ [] = sym c.deref.ensures.value ∙ c.in-Some.ensures.cases.0 in
    let h = c.args.array ∷ c.args.index ∷ c.args.word ∷ [] in
    let top = ids_top (MayName (length c.args.self.now) []) c.in_ok-bits.bits.items c.in-Some.lower.now c.in-Some.bit.now all c.in_ok-bits.ensures.new in
    let low_ids = ids_lower (MayName (length c.args.self.now) []) c.in_ok-bits.bits.items c.in-Some.lower.now c.in-Some.bit.now all c.in_ok-bits.ensures.new in
    let e1 = extends_twice c.args.self.now c.args.self.now c.bits.new.self h (c.args.index ∷ []) (extends_same c.args.self.now h) c.in_ok-bits.ensures.extends (inr (inr (inl refl)), tt) in
    let e2 = extends_twice c.args.self.now c.bits.new.self c.halves.new.self h (c.args.array ∷ []) e1 c.halves.ensures.extends (inr (inl refl), tt) in
    let e3 = part_of_whole c.args.self.now c.halves.new.self c.write_where.new.self c.args.array c.args.index c.args.word c.in_ok-high.high c.in-Some.bit.now.one c.in-Some.lower.now e2 c.write_where.ensures.extends (new_wider c.args.self.now c.bits.new.self h c.in_ok-high.high (longer c.args.self.now c.bits.new.self h e1) c.in_ok-high.ensures.new.0) (new_wider c.args.self.now c.args.self.now h c.in-Some.bit.now.one (omega arith) top.0) low_ids in
    node_given c.args.self.now c.write_where.new.self c.args.word c.args.element_width (goes c.args.self.now c.write_where.new.self h e3) c.requires.word

pub returns-in_err-below-clause-extends : goal.returns-in_err-below-clause-extends
returns-in_err-below-clause-extends c =
    let all : c.in_ok-bits.bits.items ≡ c.in-Some.lower.now ++ c.in-Some.bit.now ∷ [] = sym c.deref.ensures.value ∙ c.in-Some.ensures.cases.0 in
    let h = c.args.array ∷ c.args.index ∷ c.args.word ∷ [] in
    let top = ids_top (MayName (length c.args.self.now) []) c.in_ok-bits.bits.items c.in-Some.lower.now c.in-Some.bit.now all c.in_ok-bits.ensures.new in
    let low_ids = ids_lower (MayName (length c.args.self.now) []) c.in_ok-bits.bits.items c.in-Some.lower.now c.in-Some.bit.now all c.in_ok-bits.ensures.new in
    let e1 = extends_twice c.args.self.now c.args.self.now c.bits.new.self h (c.args.index ∷ []) (extends_same c.args.self.now h) c.in_ok-bits.ensures.extends (inr (inr (inl refl)), tt) in
    let e2 = extends_twice c.args.self.now c.bits.new.self c.halves.new.self h (c.args.array ∷ []) e1 c.halves.ensures.extends (inr (inl refl), tt) in
    let e3 = part_of_whole c.args.self.now c.halves.new.self c.write_where.new.self c.args.array c.args.index c.args.word c.in_ok-high.high c.in-Some.bit.now.one c.in-Some.lower.now e2 c.write_where.ensures.extends (new_wider c.args.self.now c.bits.new.self h c.in_ok-high.high (longer c.args.self.now c.bits.new.self h e1) c.in_ok-high.ensures.new.0) (new_wider c.args.self.now c.args.self.now h c.in-Some.bit.now.one (omega arith) top.0) low_ids in
    let e4 = part_of_whole c.args.self.now c.write_where.new.self c.write_where-2.new.self c.args.array c.args.index c.args.word c.in_ok-high.low c.in-Some.bit.now.zero c.in-Some.lower.now e3 c.write_where-2.ensures.extends (new_wider c.args.self.now c.bits.new.self h c.in_ok-high.low (longer c.args.self.now c.bits.new.self h e1) c.in_ok-high.ensures.new.1.0) (new_wider c.args.self.now c.args.self.now h c.in-Some.bit.now.zero (omega arith) top.1) low_ids in
    e4

pub concat-requires-clause-high : goal.concat-requires-clause-high
concat-requires-clause-high c =
    let len : length c.in-Some.lower.now + 1 ≡ c.args.index_width = c.in-Some.ensures.cases.1 ∙ ap length c.deref.ensures.value ∙ c.in_ok-bits.ensures.many in
    let low_is : c.args.index_width - 1 ≡ length c.in-Some.lower.now = omega (arith, len) in
    let is : c.array_width-half.result ≡ 2 ^ length c.in-Some.lower.now * c.args.element_width = c.array_width-half.ensures ∙ ap (λ (m : ℕ). 2 ^ m * c.args.element_width) low_is in
    half_node c.write_where-2.new.self (length c.in-Some.lower.now) c.args.element_width c.array_width-half.result c.in_ok-above.above is (node_given c.write_where.new.self c.write_where-2.new.self c.in_ok-above.above (2 ^ length c.in-Some.lower.now * c.args.element_width) (goes c.write_where.new.self c.write_where-2.new.self (write_handed c.in_ok-high.low c.in-Some.bit.now.zero c.args.word c.in-Some.lower.now) c.write_where-2.ensures.extends) c.in_ok-above.ensures.node.width)

pub concat-requires-clause-most : goal.concat-requires-clause-most
concat-requires-clause-most c =
    let whole : c.args.index_width - 1 + 1 ≡ c.args.index_width = omega (arith, c.requires.some) in
    both_most (c.args.index_width - 1) c.args.index_width c.args.element_width c.array_width-half.result greatest_width whole c.array_width-half.ensures c.know_array.ensures.most

pub returns-clause-node : goal.returns-clause-node
returns-clause-node c =
    let all : c.in_ok-bits.bits.items ≡ c.in-Some.lower.now ++ c.in-Some.bit.now ∷ [] = sym c.deref.ensures.value ∙ c.in-Some.ensures.cases.0 in
    let len : length c.in-Some.lower.now + 1 ≡ c.args.index_width = c.in-Some.ensures.cases.1 ∙ ap length c.deref.ensures.value ∙ c.in_ok-bits.ensures.many in
    let low_is : c.args.index_width - 1 ≡ length c.in-Some.lower.now = omega (arith, len) in
    let is : c.array_width-half.result ≡ 2 ^ length c.in-Some.lower.now * c.args.element_width = c.array_width-half.ensures ∙ ap (λ (m : ℕ). 2 ^ m * c.args.element_width) low_is in
    let h = c.args.array ∷ c.args.index ∷ c.args.word ∷ [] in
    let bit = top_bit c.bits.new.self c.args.index c.in_ok-bits.bits.items c.in-Some.lower.now c.in-Some.bit.now all c.in_ok-bits.ensures.bits in
    let e1 = extends_twice c.args.self.now c.args.self.now c.bits.new.self h (c.args.index ∷ []) (extends_same c.args.self.now h) c.in_ok-bits.ensures.extends (inr (inr (inl refl)), tt) in
    let wide = node_given c.args.self.now c.bits.new.self c.args.array (2 ^ (length c.in-Some.lower.now + 1) * c.args.element_width) (goes c.args.self.now c.bits.new.self h e1) (subst (λ (m : ℕ). node_width c.args.self.now c.args.array ≡ Some (2 ^ m * c.args.element_width)) (sym len) c.requires.array) in
    let index = node_given c.args.self.now c.bits.new.self c.args.index (length c.in-Some.lower.now + 1) (goes c.args.self.now c.bits.new.self h e1) (subst (λ (m : ℕ). node_width c.args.self.now c.args.index ≡ Some m) (sym len) c.requires.index) in
    subst (λ (m : ℕ). IfOk c.concat.result (GivesWord c.concat.new.self (2 ^ m * c.args.element_width) (λ g. write_value c.args.element_width (g c.args.array) (g c.args.index) (g c.args.word)))) len
    (write_whole c.bits.new.self c.halves.new.self c.write_where.new.self c.write_where-2.new.self c.concat.new.self (length c.in-Some.lower.now) c.args.element_width c.args.array c.args.index c.args.word c.array_width-half.result c.in_ok-high.high c.in_ok-high.low c.in_ok-above.above c.in_ok-below.below c.in-Some.bit.now c.concat.result (goes c.bits.new.self c.halves.new.self (c.args.array ∷ []) c.halves.ensures.extends) (goes c.halves.new.self c.write_where.new.self (write_handed c.in_ok-high.high c.in-Some.bit.now.one c.args.word c.in-Some.lower.now) c.write_where.ensures.extends) (goes c.write_where.new.self c.write_where-2.new.self (write_handed c.in_ok-high.low c.in-Some.bit.now.zero c.args.word c.in-Some.lower.now) c.write_where-2.ensures.extends)
    (goes c.write_where-2.new.self c.concat.new.self (c.in_ok-above.above ∷ c.in_ok-below.below ∷ []) c.concat.ensures.extends) c.know_array.ensures.some is wide index bit c.in_ok-high.ensures.high c.in_ok-high.ensures.low c.in_ok-above.ensures.node c.in_ok-below.ensures.node c.concat.ensures.node)

pub returns-clause-extends : goal.returns-clause-extends
returns-clause-extends c =
    let all : c.in_ok-bits.bits.items ≡ c.in-Some.lower.now ++ c.in-Some.bit.now ∷ [] = sym c.deref.ensures.value ∙ c.in-Some.ensures.cases.0 in
    let h = c.args.array ∷ c.args.index ∷ c.args.word ∷ [] in
    let top = ids_top (MayName (length c.args.self.now) []) c.in_ok-bits.bits.items c.in-Some.lower.now c.in-Some.bit.now all c.in_ok-bits.ensures.new in
    let low_ids = ids_lower (MayName (length c.args.self.now) []) c.in_ok-bits.bits.items c.in-Some.lower.now c.in-Some.bit.now all c.in_ok-bits.ensures.new in
    let e1 = extends_twice c.args.self.now c.args.self.now c.bits.new.self h (c.args.index ∷ []) (extends_same c.args.self.now h) c.in_ok-bits.ensures.extends (inr (inr (inl refl)), tt) in
    let e2 = extends_twice c.args.self.now c.bits.new.self c.halves.new.self h (c.args.array ∷ []) e1 c.halves.ensures.extends (inr (inl refl), tt) in
    let e3 = part_of_whole c.args.self.now c.halves.new.self c.write_where.new.self c.args.array c.args.index c.args.word c.in_ok-high.high c.in-Some.bit.now.one c.in-Some.lower.now e2 c.write_where.ensures.extends (new_wider c.args.self.now c.bits.new.self h c.in_ok-high.high (longer c.args.self.now c.bits.new.self h e1) c.in_ok-high.ensures.new.0) (new_wider c.args.self.now c.args.self.now h c.in-Some.bit.now.one (omega arith) top.0) low_ids in
    let e4 = part_of_whole c.args.self.now c.write_where.new.self c.write_where-2.new.self c.args.array c.args.index c.args.word c.in_ok-high.low c.in-Some.bit.now.zero c.in-Some.lower.now e3 c.write_where-2.ensures.extends (new_wider c.args.self.now c.bits.new.self h c.in_ok-high.low (longer c.args.self.now c.bits.new.self h e1) c.in_ok-high.ensures.new.1.0) (new_wider c.args.self.now c.args.self.now h c.in-Some.bit.now.zero (omega arith) top.1) low_ids in
    extends_twice c.args.self.now c.write_where-2.new.self c.concat.new.self h (c.in_ok-above.above ∷ c.in_ok-below.below ∷ []) e4 c.concat.ensures.extends
    (new_may c.args.self.now c.halves.new.self c.write_where.new.self h c.in_ok-above.above (longer c.args.self.now c.halves.new.self h e2) c.in_ok-above.ensures.new, (new_may c.args.self.now c.write_where.new.self c.write_where-2.new.self h c.in_ok-below.below (longer c.args.self.now c.write_where.new.self h e3) c.in_ok-below.ensures.new, tt))
