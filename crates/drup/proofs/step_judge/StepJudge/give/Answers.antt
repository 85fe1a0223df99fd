use Rattle.std.proofs.Common.{Bool, ap, sym, subst, ◌∙◌}
use Rattle.std.specs.Option.{is_some}
use Rattle.drup.specs.Propagator.{AddedTo}
use Rattle.drup.specs.StepJudges.{StepJudge, BeginsSteps}
use Rattle.drup.proofs.StepJudgeLemmas.{begins_found, begins_met, begins_on}
use Rattle.drup.proofs.step_judge.StepJudge.give.Goals as goal

pub returns-then-is_some-clause-begins : goal.returns-then-is_some-clause-begins
returns-then-is_some-clause-begins c f b =
    begins_found f c.args.clause.now c.args.self.now (ap (λ (x : StepJudge). is_some x.found) (sym c.self.view_is) ∙ sym c.is_some.ensures ∙ c.if-is_some.true) b

pub returns-in-Ok-true-clause-begins : goal.returns-in-Ok-true-clause-begins
returns-in-Ok-true-clause-begins c f b =
    let added = subst (λ (met : Bool). AddedTo c.self.inside.propagator c.args.clause.now c.add.new.self met) c.in-Ok-true.field-0-test c.in-Ok-true.ensures in
    begins_met f c.args.clause.now (record { propagator = c.self.inside.propagator; found = c.self.inside.found; failed = c.self.inside.failed }) c.add.new.self c.self.inside.failed
    (sym c.is_some.ensures ∙ c.if-is_some.false) (λ ok. ok) added.1 (subst (λ (x : StepJudge). BeginsSteps f x) (sym c.self.view_is) b)

pub returns-in-Ok-false-clause-begins : goal.returns-in-Ok-false-clause-begins
returns-in-Ok-false-clause-begins c f b =
    let added = subst (λ (met : Bool). AddedTo c.self.inside.propagator c.args.clause.now c.add.new.self met) c.in-Ok-false.field-0-test c.in-Ok-false.ensures in
    begins_on f c.args.clause.now (record { propagator = c.self.inside.propagator; found = c.self.inside.found; failed = c.self.inside.failed }) c.add.new.self
    (sym c.is_some.ensures ∙ c.if-is_some.false) added (subst (λ (x : StepJudge). BeginsSteps f x) (sym c.self.view_is) b)
