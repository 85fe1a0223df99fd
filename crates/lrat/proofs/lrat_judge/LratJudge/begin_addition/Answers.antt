use Rattle.std.proofs.Common.{ℕ, ◌++◌, ◌∷◌, [], ap, sym, subst, ◌∙◌}
use Rattle.lrat.specs.HintedProofs.{mark, adds}
use Rattle.lrat.specs.Scans.{BeginsAddition}
use Rattle.lrat.specs.StepReaders.{StandsForWords}
use Rattle.lrat.specs.LratJudges.{LratJudge, judge_of, StandsForBytes}
use Rattle.lrat.proofs.CodedLemmas.{addition_begun}
use Rattle.lrat.proofs.lrat_judge.LratJudge.begin_addition.Goals as goal

pub returns-clause-stands : goal.returns-clause-stands
returns-clause-stands c f text b =
    addition_begun f (judge_of c.self.inside) c.take_word.new.self c.in_addition-self-inside.result text (ap (λ (x : LratJudge). x.text.reader.closed) c.self.view_is ∙ c.requires.open)
    (subst (λ (x : LratJudge). BeginsAddition x.scan 97) (sym c.self.view_is) c.requires.begins) c.in_addition-self-inside.ensures.spot c.in_addition-self-inside.ensures.step c.in_addition-self-inside.ensures.number c.take_word.ensures.variables
    (λ g marks s. subst (λ (n : ℕ). StandsForWords g c.take_word.new.self.reader (marks ++ mark n adds ∷ [])) c.step.ensures (c.take_word.ensures.words g marks s))
    (subst (λ (x : LratJudge). StandsForBytes f x text) (sym c.self.view_is) b)
