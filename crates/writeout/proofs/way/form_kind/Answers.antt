use Rattle.std.proofs.Common.{sym, ap, ◌∙◌}
use Rattle.writeout.specs.Ways.{kind_of_form}
use Rattle.writeout.proofs.DigitLemmas.{one_kind, ones_kind}
use Rattle.writeout.proofs.way.form_kind.Goals as goal

pub returns-in-One : goal.returns-in-One
returns-in-One c = c.kind_by.ensures ∙ one_kind c.args.width c.in-One.sort ∙ ap (kind_of_form c.args.width) (sym c.in-One.is)

pub returns-in-Ones : goal.returns-in-Ones
returns-in-Ones c = c.kind_by-in-Ones.ensures ∙ ones_kind c.args.width c.in-Ones.sort ∙ ap (kind_of_form c.args.width) (sym c.in-Ones.is)
