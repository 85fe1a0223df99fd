use Rattle.std.proofs.Common.{sym, subst}
use Rattle.lrat.specs.StepReaders.{StandsForWords}
use Rattle.lrat.specs.TextJudges.{TextJudge}
use Rattle.lrat.proofs.text_judge.TextJudge.take_among_literals.Goals as goal

pub returns-clause-words : goal.returns-clause-words
returns-clause-words c f marks s = c.take_among_literals.ensures.stands f marks (subst (λ (x : TextJudge). StandsForWords f x.reader marks) (sym c.self.view_is) s)
