use Rattle.std.proofs.Common.{ℕ, ◌++◌, ◌∷◌, [], ap, sym, subst, ◌∙◌}
use Rattle.lrat.specs.HintedProofs.{mark, number}
use Rattle.lrat.specs.Scans.{BeginsNumber}
use Rattle.lrat.specs.StepReaders.{StandsForWords}
use Rattle.lrat.specs.LratJudges.{LratJudge, judge_of, StandsForBytes}
use Rattle.lrat.proofs.CodedLemmas.{hint_taken}
use Rattle.lrat.proofs.lrat_judge.LratJudge.take_hint.Goals as goal

pub returns-clause-stands : goal.returns-clause-stands
returns-clause-stands c f text word writes b =
    hint_taken f (judge_of c.self.inside) c.take_among_hints.new.self text word c.args.number (ap (λ (x : LratJudge). x.text.reader.closed) c.self.view_is ∙ c.requires.reads.going)
    (subst (λ (x : LratJudge). BeginsNumber x.scan) (sym c.self.view_is) c.requires.begins) (ap (λ (x : LratJudge). x.scan.spot) c.self.view_is ∙ c.requires.other) c.requires.low writes c.take_among_hints.ensures.variables
    (λ g marks s. subst (λ (n : ℕ). StandsForWords g c.take_among_hints.new.self.reader (marks ++ mark n (number c.args.number) ∷ [])) c.step.ensures (c.take_among_hints.ensures.words g marks s))
    (subst (λ (x : LratJudge). StandsForBytes f x text) (sym c.self.view_is) b)
