use Rattle.std.proofs.Common.{ℕ, Some, option_map, ap, sym, ◌∙◌, arith}
use Rattle.btor2.specs.Items.{is_state}
use Rattle.runs.specs.Nodes.{slot}
use Rattle.runs.proofs.RankLemmas.{length-ids, length-places}
use Rattle.runs.proofs.PlaceLemmas.{slots_length, slot_read}
use Rattle.runs.proofs.StateLemmas.{next_found, next_missing}
use Rattle.runs.proofs.resolving.next_slot.Goals as goal

pub next_of-requires : goal.next_of-requires
next_of-requires c = omega (arith, c.requires.there, length-ids is_state c.args.model.now, length-places is_state 0 c.args.model.now)

pub offset_bounds-slots-place : goal.offset_bounds-slots-place
offset_bounds-slots-place c =
    let found = next_found c.args.model.now c.args.k c.in-Some.place c.requires.well_formed c.requires.there c.in-Some.ensures in
    omega (arith, slots_length c.args.model.now c.args.slots.now c.requires.slots, found.2.inside)

pub bounds-slots-place : goal.bounds-slots-place
bounds-slots-place c =
    let found = next_found c.args.model.now c.args.k c.in-Some.place c.requires.well_formed c.requires.there c.in-Some.ensures in
    omega (arith, slots_length c.args.model.now c.args.slots.now c.requires.slots, found.2.inside)

pub returns-in-Some : goal.returns-in-Some
returns-in-Some c =
    let items = c.args.model.now in
    let found = next_found items c.args.k c.in-Some.place c.requires.well_formed c.requires.there c.in-Some.ensures in
    ap (λ (n : ℕ). Some n) (slot_read items c.args.slots.now found.0 c.in-Some.place c.requires.slots found.2) ∙ sym (ap (option_map (slot items)) found.1)

pub returns-in-None : goal.returns-in-None
returns-in-None c =
    let items = c.args.model.now in
    sym (ap (option_map (slot items)) (next_missing items c.args.k c.requires.well_formed c.requires.there c.in-None.ensures))
