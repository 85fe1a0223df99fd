use Rattle.std.proofs.Common.{◌≡◌, ℕ, ◌+◌, ◌*◌, true, false, cond, map, refl, sym, ap, ap₂, ◌∙◌, arith}
use Rattle.std.specs.List.{range_with_len}
use Rattle.btor2.specs.Items.{is_free}
use Rattle.btor2.proofs.ModelLemmas.{few_items}
use Rattle.blast.proofs.NodeRows.{next_same, AreSmall-from_bound, IsNextState-from_front, IsNextState-free, after_state}
use Rattle.blast.proofs.nodes.state_row.Goals as goal

pub is_free-free-requires : goal.is_free-free-requires
is_free-free-requires c = (IsNextState-from_front c.args.model.now c.args.place c.args.item.now c.args.next.now c.requires.at c.requires.state c.requires.next).within

pub overflow_add-next : goal.overflow_add-next
overflow_add-next c =
    omega (arith, (IsNextState-from_front c.args.model.now c.args.place c.args.item.now c.args.next.now c.requires.at c.requires.state c.requires.next).few, few_items c.args.model.now c.requires.well_formed)

pub next_bits-requires-clause-small : goal.next_bits-requires-clause-small
next_bits-requires-clause-small c = omega (arith, (AreSmall-from_bound c.args.model.now c.args.place c.args.next.now c.requires.next c.requires.fits).free)

pub next_bits-requires-else-free-clause-small : goal.next_bits-requires-else-free-clause-small
next_bits-requires-else-free-clause-small c = omega (arith, (AreSmall-from_bound c.args.model.now c.args.place c.args.next.now c.requires.next c.requires.fits).carried)

pub returns-then-free-clause-bits : goal.returns-then-free-clause-bits
returns-then-free-clause-bits c =
    let k = IsNextState-from_front c.args.model.now c.args.place c.args.item.now c.args.next.now c.requires.at c.requires.state c.requires.next in
    let free : is_free c.args.model.now c.args.item.now.id ≡ true = IsNextState-free c.args.model.now c.args.place c.args.next.now.state c.args.item.now true k c.requires.at (sym c.if-free.true ∙ c.is_free-free.ensures) in
    c.next_bits.ensures.bits
    ∙ ap₂ (λ (first width : ℕ). map (λ i. 2 * (first + i)) (range_with_len 0 width)) (sym (ap (λ b. cond b c.args.next.now.free c.args.next.now.carried) free)) c.bit_count-width.ensures.value

pub returns-then-free-clause-next : goal.returns-then-free-clause-next
returns-then-free-clause-next c =
    let k = IsNextState-from_front c.args.model.now c.args.place c.args.item.now c.args.next.now c.requires.at c.requires.state c.requires.next in
    let free : is_free c.args.model.now c.args.item.now.id ≡ true = IsNextState-free c.args.model.now c.args.place c.args.next.now.state c.args.item.now true k c.requires.at (sym c.if-free.true ∙ c.is_free-free.ensures) in
    next_same _ _ _ _ _ _ _ _ refl (c.next_bits.ensures.next ∙ ap (λ (w : ℕ). c.args.next.now.free + w) c.bit_count-width.ensures.value) refl (omega arith)
    ∙ sym (after_state c.args.model.now c.args.item.now c.args.next.now true c.requires.state free)

pub returns-else-free-clause-bits : goal.returns-else-free-clause-bits
returns-else-free-clause-bits c =
    let k = IsNextState-from_front c.args.model.now c.args.place c.args.item.now c.args.next.now c.requires.at c.requires.state c.requires.next in
    let carried : is_free c.args.model.now c.args.item.now.id ≡ false = IsNextState-free c.args.model.now c.args.place c.args.next.now.state c.args.item.now false k c.requires.at (sym c.if-free.false ∙ c.is_free-free.ensures) in
    c.next_bits-else-free.ensures.bits
    ∙ ap₂ (λ (first width : ℕ). map (λ i. 2 * (first + i)) (range_with_len 0 width)) (sym (ap (λ b. cond b c.args.next.now.free c.args.next.now.carried) carried)) c.bit_count-width.ensures.value

pub returns-else-free-clause-next : goal.returns-else-free-clause-next
returns-else-free-clause-next c =
    let k = IsNextState-from_front c.args.model.now c.args.place c.args.item.now c.args.next.now c.requires.at c.requires.state c.requires.next in
    let carried : is_free c.args.model.now c.args.item.now.id ≡ false = IsNextState-free c.args.model.now c.args.place c.args.next.now.state c.args.item.now false k c.requires.at (sym c.if-free.false ∙ c.is_free-free.ensures) in
    next_same _ _ _ _ _ _ _ _ refl refl (c.next_bits-else-free.ensures.next ∙ ap (λ (w : ℕ). c.args.next.now.carried + w) c.bit_count-width.ensures.value) (omega arith)
    ∙ sym (after_state c.args.model.now c.args.item.now c.args.next.now false c.requires.state carried)
