use Rattle.std.proofs.Common.{sym, ◌∙◌, ap, arith}
use Rattle.std.proofs.lemmas.Option.{none-some, same_Some}
use Rattle.btor2.specs.Items.{position_of}
use Rattle.runs.proofs.PlaceLemmas.{node_place, no_place, slot_read, slots_length}
use Rattle.runs.proofs.nodes.operand.Goals as goal

pub width_of-requires : goal.width_of-requires
width_of-requires c = (node_place c.args.model.now c.args.id c.in-Some.place c.requires.there (ap (position_of c.args.model.now) (sym c.from.ensures) ∙ sym c.in-Some.ensures)).inside

pub offset_bounds-slots-place : goal.offset_bounds-slots-place
offset_bounds-slots-place c =
    let inside = (node_place c.args.model.now c.args.id c.in-Some.place c.requires.there (ap (position_of c.args.model.now) (sym c.from.ensures) ∙ sym c.in-Some.ensures)).inside in
    omega (arith, slots_length c.args.model.now c.args.slots.now c.requires.slots)

pub bounds-slots-place : goal.bounds-slots-place
bounds-slots-place c =
    let inside = (node_place c.args.model.now c.args.id c.in-Some.place c.requires.there (ap (position_of c.args.model.now) (sym c.from.ensures) ∙ sym c.in-Some.ensures)).inside in
    omega (arith, slots_length c.args.model.now c.args.slots.now c.requires.slots)

pub unreachable-requires : goal.unreachable-requires
unreachable-requires c =
    let there = node_place c.args.model.now c.args.id c.in-Some.place c.requires.there (ap (position_of c.args.model.now) (sym c.from.ensures) ∙ sym c.in-Some.ensures) in
    none-some _ (c.in-None-width_of.ensures ∙ there.width)

pub unreachable-requires-in-None : goal.unreachable-requires-in-None
unreachable-requires-in-None c = no_place c.args.model.now c.args.id c.requires.there (ap (position_of c.args.model.now) (sym c.from.ensures) ∙ sym c.in-None.ensures)

pub returns-clause-width : goal.returns-clause-width
returns-clause-width c =
    let there = node_place c.args.model.now c.args.id c.in-Some.place c.requires.there (ap (position_of c.args.model.now) (sym c.from.ensures) ∙ sym c.in-Some.ensures) in
    same_Some _ _ (c.in-Some-width_of.ensures ∙ there.width)

pub returns-clause-place : goal.returns-clause-place
returns-clause-place c =
    slot_read c.args.model.now c.args.slots.now c.args.id c.in-Some.place c.requires.slots (node_place c.args.model.now c.args.id c.in-Some.place c.requires.there (ap (position_of c.args.model.now) (sym c.from.ensures) ∙ sym c.in-Some.ensures))
