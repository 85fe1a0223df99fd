use Rattle.std.proofs.Common.{ℕ, ◌++◌, ◌∷◌, [], ap, sym, subst, ◌∙◌}
use Rattle.lrat.specs.HintedProofs.{mark, ends}
use Rattle.lrat.specs.Scans.{BeginsNumber, EndsList}
use Rattle.lrat.specs.StepReaders.{StandsForWords}
use Rattle.lrat.specs.LratJudges.{LratJudge, judge_of, StandsForBytes}
use Rattle.lrat.proofs.CodedLemmas.{list_ended}
use Rattle.lrat.proofs.lrat_judge.LratJudge.end_list.Goals as goal

pub returns-clause-stands : goal.returns-clause-stands
returns-clause-stands c f text b =
    list_ended f (judge_of c.self.inside) c.take_word.new.self c.behind_list-self-inside.result text (ap (λ (x : LratJudge). x.text.reader.closed) c.self.view_is ∙ c.requires.open)
    (subst (λ (x : LratJudge). BeginsNumber x.scan) (sym c.self.view_is) c.requires.begins) (subst (λ (x : LratJudge). EndsList x.scan 0) (sym c.self.view_is) c.requires.ends) c.behind_list-self-inside.ensures.spot c.behind_list-self-inside.ensures.step c.behind_list-self-inside.ensures.number c.take_word.ensures.variables
    (λ g marks s. subst (λ (n : ℕ). StandsForWords g c.take_word.new.self.reader (marks ++ mark n ends ∷ [])) c.step.ensures (c.take_word.ensures.words g marks s))
    (subst (λ (x : LratJudge). StandsForBytes f x text) (sym c.self.view_is) b)
