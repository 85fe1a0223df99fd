use Rattle.std.proofs.Common.{ℕ, ◌==◌, ◌/◌, ◌%◌, ◌++◌, ◌∷◌, [], not, refl, ap, sym, subst, ◌∙◌}
use Rattle.lrat.specs.HintedProofs.{mark}
use Rattle.lrat.specs.Words.{token_said, signed}
use Rattle.lrat.specs.Scans.{BeginsNumber}
use Rattle.lrat.specs.StepReaders.{StandsForWords}
use Rattle.lrat.specs.LratJudges.{LratJudge, judge_of, StandsForBytes}
use Rattle.lrat.proofs.CodedLemmas.{literal_taken}
use Rattle.lrat.proofs.lrat_judge.LratJudge.take_literal.Goals as goal

pub returns-clause-stands : goal.returns-clause-stands
returns-clause-stands c f text word writes b =
    literal_taken f (judge_of c.self.inside) c.take_among_literals.new.self text word c.args.number (c.args.number % 2 == 0) (ap (λ (x : LratJudge). x.text.reader.closed) c.self.view_is ∙ c.requires.reads.going)
    (subst (λ (x : LratJudge). BeginsNumber x.scan) (sym c.self.view_is) c.requires.begins) (ap (λ (x : LratJudge). x.scan.spot) c.self.view_is ∙ c.requires.literal) c.requires.low writes refl c.take_among_literals.ensures.variables
    (λ g marks s. subst (λ (n : ℕ). StandsForWords g c.take_among_literals.new.self.reader (marks ++ mark n (token_said (signed (not (c.args.number % 2 == 0)) (c.args.number / 2))) ∷ [])) c.step.ensures (c.take_among_literals.ensures.words g marks s))
    (subst (λ (x : LratJudge). StandsForBytes f x text) (sym c.self.view_is) b)
