use Rattle.std.proofs.Common.{ap, sym, subst, ◌∙◌}
use Rattle.std.specs.Option.{is_some}
use Rattle.drup.specs.Proofs.{addition, ended}
use Rattle.drup.specs.StepJudges.{StepJudge, StandsForSteps}
use Rattle.drup.proofs.StepJudgeLemmas.{stands_found, stands_added}
use Rattle.drup.proofs.step_judge.StepJudge.add.Goals as goal

pub returns-then-is_some-clause-stands : goal.returns-then-is_some-clause-stands
returns-then-is_some-clause-stands c f steps s =
    stands_found f steps (ended c.args.line (addition c.args.clause.now)) c.args.self.now
    (ap (λ (x : StepJudge). is_some x.found) (sym c.self.view_is) ∙ sym c.is_some.ensures ∙ c.if-is_some.true) s

pub returns-in-Ok-clause-stands : goal.returns-in-Ok-clause-stands
returns-in-Ok-clause-stands c f steps s =
    stands_added f steps c.args.clause.now c.args.line (record { propagator = c.self.inside.propagator; found = c.self.inside.found; failed = c.self.inside.failed }) c.judge_addition.new.propagator c.in-Ok.found
    (sym c.is_some.ensures ∙ c.if-is_some.false) c.in-Ok.ensures.leads (subst (λ (x : StepJudge). StandsForSteps f steps x) (sym c.self.view_is) s)
