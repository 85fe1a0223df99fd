use Rattle.std.proofs.Common.{ap, sym, subst, ◌∙◌}
use Rattle.std.specs.Option.{is_some}
use Rattle.drup.specs.Proofs.{deletion, ended}
use Rattle.drup.specs.StepJudges.{StepJudge, StandsForSteps}
use Rattle.drup.proofs.StepJudgeLemmas.{stands_found, stands_deleted}
use Rattle.drup.proofs.step_judge.StepJudge.delete.Goals as goal

pub returns-then-is_some-clause-stands : goal.returns-then-is_some-clause-stands
returns-then-is_some-clause-stands c f steps s =
    stands_found f steps (ended c.args.line (deletion c.args.clause.now)) c.args.self.now
    (ap (λ (x : StepJudge). is_some x.found) (sym c.self.view_is) ∙ sym c.is_some.ensures ∙ c.if-is_some.true) s

pub returns-clause-stands : goal.returns-clause-stands
returns-clause-stands c f steps s =
    stands_deleted f steps c.args.clause.now c.args.line (record { propagator = c.self.inside.propagator; found = c.self.inside.found; failed = c.self.inside.failed }) c.delete.new.self
    (sym c.is_some.ensures ∙ c.if-is_some.false) c.delete.ensures.left c.delete.ensures.followed.0 (subst (λ (x : StepJudge). StandsForSteps f steps x) (sym c.self.view_is) s)
