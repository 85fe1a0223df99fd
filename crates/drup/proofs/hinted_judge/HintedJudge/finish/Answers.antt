use Rattle.std.proofs.Common.{false, [], length, sym, ap, subst, ◌∙◌}
use Rattle.std.specs.Prelude.{Option, None}
use Rattle.drup.specs.declared.judgement.Judgement.{Judgement}
use Rattle.drup.specs.HintedJudges.{HintedJudge, StandsForHinted, continued}
use Rattle.drup.proofs.HintedLemmas.{judged_end}
use Rattle.drup.proofs.hinted_judge.HintedJudge.finish.Goals as goal

pub returns-in-Some-clause-steps : goal.returns-in-Some-clause-steps
returns-in-Some-clause-steps c f steps s =
    let old : HintedJudge = record { named = c.self.inside.named; limit = length c.self.inside.trail.marks; last = c.self.inside.last; found = c.self.inside.found; failed = c.self.inside.failed } in
    sym (judged_end f steps None old c.if-self.false (subst (StandsForHinted f steps) (sym c.self.view_is) s)
    ∙ ap (λ (found : Option Judgement). continued old found None []) c.in-Some.is)

pub returns-clause-steps : goal.returns-clause-steps
returns-clause-steps c f steps s =
    let old : HintedJudge = record { named = c.self.inside.named; limit = length c.self.inside.trail.marks; last = c.self.inside.last; found = c.self.inside.found; failed = c.self.inside.failed } in
    sym (judged_end f steps None old c.if-self.false (subst (StandsForHinted f steps) (sym c.self.view_is) s)
    ∙ ap (λ (found : Option Judgement). continued old found None []) c.in-None.is)
