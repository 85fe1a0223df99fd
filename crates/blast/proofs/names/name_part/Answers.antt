use Rattle.std.proofs.Common.{◌≡◌, ℕ, ◌+◌, Some, length, get_or, slice_get, ap, ◌∙◌, arith}
use Rattle.blast.specs.Sections.{names_given}
use Rattle.blast.proofs.KindBlocks.{reached-none, reached-is}
use Rattle.blast.proofs.NameLemmas.{item_within, WithItems-none, WithItems-open, WithItems-more, WithItems-all, reached-item, reached-part}
use Rattle.blast.proofs.names.name_part.Goals as goal
use Rattle.btor2.proofs.LeafLemmas.{place_within}
use Rattle.btor2.specs.Leaves.{list_of}

pub loop-k-init : goal.loop-k-init
loop-k-init c =
    record {
      next = omega (arith, reached-none (names_given c.args.model.now c.args.leaves) c.args.model.now c.places-list.result.now);
      names = WithItems-none c.args.model.now c.args.leaves c.places-list.result.now c.args.first c.args.circuit.now;
    }

pub item_at-item-requires : goal.item_at-item-requires
item_at-item-requires c =
    omega (arith, ap length c.items-items.ensures.items, place_within (list_of c.args.leaves) c.args.model.now c.places-list.result.now c.loop-k.k c.places-list.ensures c.loop-k-test.true)

pub name_item-requires-clause-free : goal.name_item-requires-clause-free
name_item-requires-clause-free c =
    (WithItems-open c.args.model.now c.args.leaves c.places-list.result.now c.args.first c.args.circuit.now c.loop-k.circuit c.loop-k.k c.loop-k.next c.item_at-item.result.now c.places-list.ensures c.loop-k.invariant.next
    (record { blank = c.requires.blank; room = c.requires.room }) c.loop-k.invariant.names c.loop-k-test.true (rw c.items-items.ensures.items at c.item_at-item.ensures)).blank

pub name_item-requires-clause-room : goal.name_item-requires-clause-room
name_item-requires-clause-room c =
    (WithItems-open c.args.model.now c.args.leaves c.places-list.result.now c.args.first c.args.circuit.now c.loop-k.circuit c.loop-k.k c.loop-k.next c.item_at-item.result.now c.places-list.ensures c.loop-k.invariant.next
    (record { blank = c.requires.blank; room = c.requires.room }) c.loop-k.invariant.names c.loop-k-test.true (rw c.items-items.ensures.items at c.item_at-item.ensures)).room

pub overflow_add-next : goal.overflow_add-next
overflow_add-next c =
    let within = item_within c.args.model.now c.args.leaves c.places-list.result.now c.loop-k.k c.item_at-item.result.now c.places-list.ensures c.loop-k-test.true (rw c.items-items.ensures.items at c.item_at-item.ensures) in
    omega
    (arith, within, reached-is (names_given c.args.model.now c.args.leaves) c.args.model.now c.places-list.result.now c.loop-k.k, c.loop-k.invariant.next, c.in_ok-count.ensures.count, c.requires.room, c.requires.few)

pub loop-k-preserved : goal.loop-k-preserved
loop-k-preserved c =
    let at : slice_get c.args.model.now (get_or c.places-list.result.now c.loop-k.k 0) ≡ Some c.item_at-item.result.now = rw c.items-items.ensures.items at c.item_at-item.ensures in
    record {
      next = ap (λ (n : ℕ). n + c.in_ok-count.count) c.loop-k.invariant.next
          ∙ omega
          (arith, c.in_ok-count.ensures.count, reached-item c.args.model.now c.args.leaves c.places-list.result.now c.loop-k.k c.item_at-item.result.now c.loop-k-test.true at);
      names = WithItems-more c.args.model.now c.args.leaves c.places-list.result.now c.args.first c.args.circuit.now c.loop-k.circuit c.name_item.new.circuit c.loop-k.k c.loop-k.next c.item_at-item.result.now c.places-list.ensures
          c.loop-k.invariant.next (record { blank = c.requires.blank; room = c.requires.room }) c.loop-k.invariant.names c.loop-k-test.true at c.in_ok-count.ensures.ok;
    }

pub returns-clause-ok : goal.returns-clause-ok
returns-clause-ok c =
    WithItems-all c.args.model.now c.args.leaves c.places-list.result.now c.args.first c.args.circuit.now c.loop-k.circuit c.loop-k.k c.places-list.ensures (omega arith) c.loop-k.invariant.names

pub returns-clause-next : goal.returns-clause-next
returns-clause-next c =
    c.loop-k.invariant.next ∙ ap (λ (n : ℕ). c.args.first + n) (reached-part c.args.model.now c.args.leaves c.places-list.result.now c.loop-k.k c.places-list.ensures (omega arith))
