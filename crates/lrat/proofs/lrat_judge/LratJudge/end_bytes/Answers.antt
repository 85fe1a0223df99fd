use Rattle.std.proofs.Common.{ℕ, [], ◌∷◌, ◌++◌, ap, sym, subst, ◌∙◌}
use Rattle.lrat.specs.HintedProofs.{faulty, mark}
use Rattle.lrat.specs.StepReaders.{StandsForWords}
use Rattle.lrat.specs.LratJudges.{LratJudge, judge_of, StandsForBytes, EndsBytes}
use Rattle.lrat.proofs.LratJudgeLemmas.{ends_closed, ends_whole, ends_cut}
use Rattle.lrat.proofs.lrat_judge.LratJudge.end_bytes.Goals as goal

pub returns-then-is_closed-clause-ends : goal.returns-then-is_closed-clause-ends
returns-then-is_closed-clause-ends c f text b = ends_closed f c.args.self.now text (sym c.is_closed.ensures ∙ c.if-is_closed.true) b

pub returns-in-None-clause-ends : goal.returns-in-None-clause-ends
returns-in-None-clause-ends c f text b =
    subst (λ (x : LratJudge). EndsBytes f x text) c.self.view_is
    (ends_whole f (judge_of c.self.inside) text (ap (λ (x : LratJudge). x.text.reader.closed) c.self.view_is ∙ sym c.is_closed.ensures ∙ c.if-is_closed.false) (λ bytes s unended. c.in-None.ensures bytes s unended)
    (subst (λ (x : LratJudge). StandsForBytes f x text) (sym c.self.view_is) b))

pub returns-in-Some-clause-ends : goal.returns-in-Some-clause-ends
returns-in-Some-clause-ends c f text b =
    ends_cut f (judge_of c.self.inside) c.refuse.new.self text c.in-Some.why (ap (λ (x : LratJudge). x.text.reader.closed) c.self.view_is ∙ sym c.is_closed.ensures ∙ c.if-is_closed.false) c.refuse.ensures.variables c.refuse.ensures.closed
    (λ g marks s. subst (λ (n : ℕ). StandsForWords g c.refuse.new.self.reader (marks ++ mark n (faulty c.in-Some.why) ∷ [])) c.step.ensures (c.refuse.ensures.words g marks s)) (λ bytes s unended. c.in-Some.ensures bytes s unended)
    (subst (λ (x : LratJudge). StandsForBytes f x text) (sym c.self.view_is) b)
