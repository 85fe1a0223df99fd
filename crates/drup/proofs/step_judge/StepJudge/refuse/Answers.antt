use Rattle.std.proofs.Common.{ap, sym, subst, ◌∙◌}
use Rattle.std.specs.Option.{is_some}
use Rattle.drup.specs.StepJudges.{StepJudge, StandsForSteps}
use Rattle.drup.proofs.StepJudgeLemmas.{judged_found, judged_fault}
use Rattle.drup.proofs.step_judge.StepJudge.refuse.Goals as goal

pub returns-then-is_some-clause-judged : goal.returns-then-is_some-clause-judged
returns-then-is_some-clause-judged c f steps s =
    judged_found f steps (record { line = c.args.line; why = c.args.why }) c.args.self.now
    (ap (λ (x : StepJudge). is_some x.found) (sym c.self.view_is) ∙ sym c.is_some.ensures ∙ c.if-is_some.true) s

pub returns-clause-judged : goal.returns-clause-judged
returns-clause-judged c f steps s =
    judged_fault f steps (record { line = c.args.line; why = c.args.why }) (record { propagator = c.self.inside.propagator; found = c.self.inside.found; failed = c.self.inside.failed })
    (sym c.is_some.ensures ∙ c.if-is_some.false) (subst (λ (x : StepJudge). StandsForSteps f steps x) (sym c.self.view_is) s)
