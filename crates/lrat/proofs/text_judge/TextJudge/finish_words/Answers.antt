use Rattle.std.proofs.Common.{◌≡◌, false, sym, subst}
use Rattle.lrat.specs.HintedProofs.{between, reading_from}
use Rattle.lrat.specs.StepReaders.{StandsForWords}
use Rattle.lrat.specs.TextJudges.{TextJudge}
use Rattle.lrat.proofs.text_judge.TextJudge.finish_words.Goals as goal

pub returns : goal.returns
returns c f marks reading s same =
    c.finish.ensures f marks reading (subst (λ (x : TextJudge). StandsForWords f x.reader marks) (sym c.self.view_is) s)
    (subst (λ (x : TextJudge). x.reader.failed ≡ false → reading ≡ reading_from x.reader.variables 0 between marks) (sym c.self.view_is) same)
