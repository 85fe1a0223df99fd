use Rattle.std.proofs.Common.{sym, ◌∙◌}
use Rattle.std.proofs.lemmas.Option.{none-some, same_Some}
use Rattle.runs.proofs.PlaceLemmas.{node_place, no_place}
use Rattle.vcd.proofs.signals.node_at.Goals as goal

pub width_of-requires : goal.width_of-requires
width_of-requires c = (node_place c.args.model.now c.args.id c.in-Some.place c.requires (sym c.in-Some.ensures)).inside

pub unreachable-requires : goal.unreachable-requires
unreachable-requires c = none-some _ (c.in-None-width_of.ensures ∙ (node_place c.args.model.now c.args.id c.in-Some.place c.requires (sym c.in-Some.ensures)).width)

pub unreachable-requires-in-None : goal.unreachable-requires-in-None
unreachable-requires-in-None c = no_place c.args.model.now c.args.id c.requires (sym c.in-None.ensures)

pub returns-clause-width : goal.returns-clause-width
returns-clause-width c = c.bits.ensures.same ∙ same_Some _ _ (c.in-Some-width_of.ensures ∙ (node_place c.args.model.now c.args.id c.in-Some.place c.requires (sym c.in-Some.ensures)).width)
