use Rattle.std.proofs.Common.{List, ℕ, ◌++◌, ap, ap₂, subst, ◌∙◌, append_assoc, take-append-drop}
use Rattle.lrat.specs.LratJudges.{StandsForLrat}
use Rattle.lrat.proofs.lrat_judge.LratJudge.feed.Goals as goal

pub returns : goal.returns
returns c f text b =
    subst (StandsForLrat f c.feed_rest.new.self)
    (append_assoc text c.split_at.result.0.now c.split_at.result.1.now
    ∙ ap (λ (l : List ℕ). text ++ l) (ap₂ (λ (l r : List ℕ). l ++ r) c.split_at.ensures.front c.split_at.ensures.back ∙ take-append-drop _ c.args.bytes.now))
    (c.feed_rest.ensures f (text ++ c.split_at.result.0.now) (c.take_all.ensures f text b))
