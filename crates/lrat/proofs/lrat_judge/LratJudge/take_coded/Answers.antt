use Rattle.std.proofs.Common.{ℕ, ◌++◌, ◌∷◌, [], ap, sym, subst, ◌∙◌}
use Rattle.lrat.specs.HintedProofs.{mark}
use Rattle.lrat.specs.Words.{token_said}
use Rattle.lrat.specs.Codes.{coded_said}
use Rattle.lrat.specs.Scans.{spot_of, BeginsNumber}
use Rattle.lrat.specs.StepReaders.{StandsForWords}
use Rattle.lrat.specs.LratJudges.{LratJudge, judge_of, StandsForBytes}
use Rattle.lrat.proofs.CodedLemmas.{number_taken}
use Rattle.lrat.proofs.lrat_judge.LratJudge.take_coded.Goals as goal

pub returns-clause-stands : goal.returns-clause-stands
returns-clause-stands c f text word n low writes said b =
    number_taken f (judge_of c.self.inside) c.take_word.new.self c.behind_number-self-inside.result text word n (ap (λ (x : LratJudge). x.text.reader.closed) c.self.view_is ∙ c.requires.open)
    (subst (λ (x : LratJudge). BeginsNumber x.scan) (sym c.self.view_is) c.requires.begins) low writes c.behind_number-self-inside.ensures.spot c.behind_number-self-inside.ensures.step c.behind_number-self-inside.ensures.number c.take_word.ensures.variables
    (λ g marks s. subst (λ t. StandsForWords g c.take_word.new.self.reader (marks ++ mark c.self.inside.scan.step t ∷ [])) (said ∙ ap (λ (x : LratJudge). coded_said (spot_of x.scan.spot) n) (sym c.self.view_is)) (subst (λ (k : ℕ). StandsForWords g c.take_word.new.self.reader (marks ++ mark k (token_said c.args.token) ∷ [])) c.step.ensures (c.take_word.ensures.words g marks s)))
    (subst (λ (x : LratJudge). StandsForBytes f x text) (sym c.self.view_is) b)
