use Rattle.std.proofs.Common.{ap, sym, ◌∙◌}
use Rattle.drup.specs.StepJudges.{StepJudge}
use Rattle.drup.proofs.StepJudgeLemmas.{ends_found, ends_without, fault_found, fault_without}
use Rattle.drup.proofs.step_judge.StepJudge.judgement.Goals as goal

pub returns-in-Some-clause-steps : goal.returns-in-Some-clause-steps
returns-in-Some-clause-steps c f steps s =
    ends_found f steps c.args.self.now c.in-Some.found s (ap (λ (x : StepJudge). x.failed) (sym c.self.view_is) ∙ c.if-self.false) (ap (λ (x : StepJudge). x.found) (sym c.self.view_is) ∙ c.in-Some.is)

pub returns-in-None-clause-steps : goal.returns-in-None-clause-steps
returns-in-None-clause-steps c f steps s =
    ends_without f steps c.args.self.now s (ap (λ (x : StepJudge). x.failed) (sym c.self.view_is) ∙ c.if-self.false) (ap (λ (x : StepJudge). x.found) (sym c.self.view_is) ∙ c.in-None.is)

pub returns-in-Some-clause-fault : goal.returns-in-Some-clause-fault
returns-in-Some-clause-fault c f steps fault h =
    fault_found f steps fault c.args.self.now c.in-Some.found h (ap (λ (x : StepJudge). x.failed) (sym c.self.view_is) ∙ c.if-self.false) (ap (λ (x : StepJudge). x.found) (sym c.self.view_is) ∙ c.in-Some.is)

pub returns-in-None-clause-fault : goal.returns-in-None-clause-fault
returns-in-None-clause-fault c f steps fault h =
    fault_without f steps fault c.args.self.now _ h (ap (λ (x : StepJudge). x.failed) (sym c.self.view_is) ∙ c.if-self.false) (ap (λ (x : StepJudge). x.found) (sym c.self.view_is) ∙ c.in-None.is)
