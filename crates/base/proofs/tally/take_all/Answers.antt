use Rattle.std.proofs.Common.{sym, ◌∙◌, arith}
use Rattle.base.proofs.StepLemmas.{more_steps-min}
use Rattle.base.proofs.tally.take_all.Goals as goal

pub returns : goal.returns
returns c = rw (← c.tally.view_is) (c.saturating_add-tally-inside.ensures ∙ sym (more_steps-min c.args.count c.tally.inside.count (omega arith)))
