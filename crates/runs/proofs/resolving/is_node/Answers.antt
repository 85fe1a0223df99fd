use Rattle.std.proofs.Common.{is_some, ap, ◌∙◌}
use Rattle.runs.proofs.PlaceLemmas.{width_there}
use Rattle.runs.proofs.resolving.is_node.Goals as goal

pub returns : goal.returns
returns c = c.is_some.ensures ∙ ap (λ o. is_some o) c.width_of.ensures ∙ width_there c.args.model.now c.args.place c.args.item.now c.requires.well_formed c.requires.at
