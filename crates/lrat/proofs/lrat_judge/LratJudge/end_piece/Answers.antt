use Rattle.std.proofs.Common.{ℕ, [], ◌∷◌, ◌++◌, ap, sym, subst, ◌∙◌}
use Rattle.std.proofs.lemmas.Bool.{lt-ltb}
use Rattle.lrat.specs.HintedProofs.{mark}
use Rattle.lrat.specs.Words.{token_said}
use Rattle.lrat.specs.StepReaders.{StandsForWords}
use Rattle.lrat.specs.LratJudges.{LratJudge, judge_of, StandsForBytes}
use Rattle.lrat.proofs.LratJudgeLemmas.{piece_ended}
use Rattle.lrat.proofs.lrat_judge.LratJudge.end_piece.Goals as goal

pub returns-clause-stands : goal.returns-clause-stands
returns-clause-stands c f text b =
    piece_ended f (judge_of c.self.inside) c.take_word.new.self c.behind-self-inside.result text c.args.byte (token_said c.token.result) (ap (λ (x : LratJudge). x.text.reader.closed) c.self.view_is ∙ c.requires.open)
    (lt-ltb c.args.byte 128 c.requires.last) c.token.ensures c.take_word.ensures.variables
    (λ g marks s. subst (λ (n : ℕ). StandsForWords g c.take_word.new.self.reader (marks ++ mark n (token_said c.token.result) ∷ [])) c.step.ensures (c.take_word.ensures.words g marks s))
    (record { number = c.behind-self-inside.ensures.number; step = c.behind-self-inside.ensures.step; spot = c.behind-self-inside.ensures.spot })
    (subst (λ (x : LratJudge). StandsForBytes f x text) (sym c.self.view_is) b)
