use Rattle.std.proofs.Common.{◌≡◌, ◌≤◌, List, length, map, take, slice_get, Some, ap, sym, ◌∙◌, arith}
use Rattle.std.proofs.lemmas.List.{take_all}
use Rattle.btor2.specs.declared.item.Item.{Item}
use Rattle.btor2.specs.Lists.{of_kind}
use Rattle.runs.specs.Frames.{has_value}
use Rattle.runs.specs.Nodes.{slot}
use Rattle.runs.proofs.StateLemmas.{slot-next, count_more, count_same, count_below, item_at, map_push}
use Rattle.runs.proofs.resolving.node_slots.Goals as goal
use Rattle.runs.proofs.resolving.node_slots.Goals.{then-is_node, else-is_node}

pub bounds-items-place : goal.bounds-items-place
bounds-items-place c = c.loop-place-test.true

pub is_node-requires-clause-well_formed : goal.is_node-requires-clause-well_formed
is_node-requires-clause-well_formed c = c.items-items.ensures.well_formed

pub is_node-requires-clause-at : goal.is_node-requires-clause-at
is_node-requires-clause-at c = item_at c.args.model.now c.items-items.result.now c.loop-place.place c.index-items-place.result c.items-items.ensures.items c.loop-place-test.true c.index-items-place.is

pub overflow_add-count : goal.overflow_add-count
overflow_add-count c = omega (arith, c.loop-place.invariant.count, count_below c.loop-place.place c.items-items.result.now)

pub loop-place-preserved : goal.loop-place-preserved
loop-place-preserved c =
    let items = c.args.model.now in
    let same : c.items-items.result.now ≡ items = c.items-items.ensures.items in
    let at : slice_get items c.loop-place.place ≡ Some c.index-items-place.result = item_at items c.items-items.result.now c.loop-place.place c.index-items-place.result same c.loop-place-test.true c.index-items-place.is in
    let word : c.loop-place.count ≡ slot items c.index-items-place.result.id =
    c.loop-place.invariant.count ∙ ap (λ (l : List Item). length (of_kind has_value (take c.loop-place.place l))) same ∙ sym (slot-next items c.loop-place.place c.index-items-place.result c.items-items.ensures.well_formed at) in
    record {
      slots = map_push (λ (x : Item). slot items x.id) c.items-items.result.now c.loop-place.slots.items c.push.new.self.items c.loop-place.place c.index-items-place.result c.index-items-place.result c.loop-place.count c.loop-place-test.true
          c.loop-place.invariant.slots c.index-items-place.is word c.in_ok-push.ensures.items;
      count = elim c.if-is_node.branch [
        | then-is_node w ↦ w.count-is ∙ count_more c.items-items.result.now c.loop-place.place c.loop-place.count c.index-items-place.result c.index-items-place.result c.loop-place-test.true c.index-items-place.is (sym c.is_node.ensures ∙ w.if-is_node.true) c.loop-place.invariant.count
        | else-is_node w ↦ w.count-is ∙ count_same c.items-items.result.now c.loop-place.place c.loop-place.count c.index-items-place.result c.index-items-place.result c.loop-place-test.true c.index-items-place.is (sym c.is_node.ensures ∙ w.if-is_node.false) c.loop-place.invariant.count
      ];
    }

pub returns : goal.returns
returns c =
    let all : length c.items-items.result.now ≤ c.loop-place.place = omega arith in
    c.loop-place.invariant.slots ∙ ap (λ (l : List Item). map (λ (x : Item). slot c.args.model.now x.id) l) (take_all c.loop-place.place c.items-items.result.now all ∙ c.items-items.ensures.items)
