use Rattle.std.proofs.Common.{ℕ, map, get_or, refl, ap, ◌∙◌}
use Rattle.std.proofs.lemmas.List.{take_all}
use Rattle.runs.proofs.StateLemmas.{map_push}
use Rattle.runs.proofs.resolving.picked.Goals as goal

pub loop-place-init : goal.loop-place-init
loop-place-init c = c.new-chosen.ensures.items

pub bounds-places-place-index : goal.bounds-places-place-index
bounds-places-place-index c = c.loop-place-test.true

pub bounds-slots-place : goal.bounds-slots-place
bounds-slots-place c = c.requires c.loop-place.place-index c.loop-place-test.true

pub loop-place-preserved : goal.loop-place-preserved
loop-place-preserved c =
    map_push (λ (p : ℕ). get_or c.args.slots.now p 0) c.args.places.now c.loop-place.chosen.items c.push.new.self.items c.loop-place.place-index _ 0 _ c.loop-place-test.true c.loop-place.invariant refl refl c.in_ok-push.ensures.items

pub returns : goal.returns
returns c = c.loop-place.invariant ∙ ap (map (λ (p : ℕ). get_or c.args.slots.now p 0)) (take_all c.loop-place.place-index c.args.places.now c.loop-place-test.false)
