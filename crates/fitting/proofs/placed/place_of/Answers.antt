-- A node with a value has a place.
use Rattle.std.proofs.Common.{sym, ap, subst, ◌∙◌}
use Rattle.std.proofs.lemmas.Option.{none-some, same_Some}
use Rattle.btor2.specs.Items.{position_of}
use Rattle.fitting.specs.Laid.{HasPlace}
use Rattle.fitting.proofs.PlaceLemmas.{has_place}
use Rattle.fitting.proofs.placed.place_of.Goals as goal

pub unreachable-requires : goal.unreachable-requires
unreachable-requires c =
    let items = c.args.model.now in
    let there = has_place items c.args.node.id c.requires in
    none-some there.0 (sym c.in-None.is ∙ c.position.ensures ∙ ap (position_of items) c.from.ensures ∙ there.1)

pub returns : goal.returns
returns c =
    let items = c.args.model.now in
    let there = has_place items c.args.node.id c.requires in
    subst (HasPlace items c.args.node.id) (sym (same_Some c.in-Some.place there.0 (sym c.in-Some.is ∙ c.position.ensures ∙ ap (position_of items) c.from.ensures ∙ there.1))) there.2
