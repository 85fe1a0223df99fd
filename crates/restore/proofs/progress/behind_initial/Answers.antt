use Rattle.std.proofs.Common.{sym, ◌∙◌}
use Rattle.restore.proofs.StepLemmas.{initial_of_text}
use Rattle.restore.proofs.progress.behind_initial.Goals as goal

pub returns-in-Some-clause-text : goal.returns-in-Some-clause-text
returns-in-Some-clause-text c = initial_of_text c.args.line.now 1 c.in-Some.why (sym c.initial_why.ensures ∙ c.in-Some.is)
