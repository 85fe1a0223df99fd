use Rattle.std.proofs.Common.{sym, ◌∙◌}
use Rattle.std.proofs.lemmas.List.Concat.{concat_is}
use Rattle.aigerlists.proofs.loose.Loose.justice_literals.Goals as goal

pub returns-clause-items : goal.returns-clause-items
returns-clause-items c = rw (← c.self.view_is) (c.values.ensures ∙ sym (concat_is c.self.inside.properties.justice))
