use Rattle.std.proofs.Common.{map, refl, ap, ◌∙◌}
use Rattle.std.proofs.lemmas.List.{take_all}
use Rattle.runs.specs.Nodes.{property_slot}
use Rattle.runs.proofs.StateLemmas.{map_push}
use Rattle.runs.proofs.resolving.property_slots.Goals as goal

pub loop-place-init : goal.loop-place-init
loop-place-init c = c.new-named.ensures.items

pub bounds-places-place-index : goal.bounds-places-place-index
bounds-places-place-index c = c.loop-place-test.true

pub property_slot-requires-clause-slots : goal.property_slot-requires-clause-slots
property_slot-requires-clause-slots c = c.requires.slots

pub property_slot-requires-clause-property : goal.property_slot-requires-clause-property
property_slot-requires-clause-property c = c.requires.properties c.loop-place.place-index c.loop-place-test.true

pub loop-place-preserved : goal.loop-place-preserved
loop-place-preserved c =
    map_push (property_slot c.args.model.now) c.args.places.now c.loop-place.named.items c.push.new.self.items c.loop-place.place-index _ 0 c.property_slot.result c.loop-place-test.true c.loop-place.invariant refl c.property_slot.ensures
    c.in_ok-push.ensures.items

pub returns : goal.returns
returns c = c.loop-place.invariant ∙ ap (map (property_slot c.args.model.now)) (take_all c.loop-place.place-index c.args.places.now c.loop-place-test.false)
