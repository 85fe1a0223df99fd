use Rattle.std.proofs.Common.{Bool, [], ◌∷◌, ◌++◌, subst}
use Rattle.drup.specs.Propagation.{MeetsConflict}
use Rattle.drup.specs.Propagator.{State, AddedTo, Extended, in_list}
use Rattle.drup.proofs.StepJudgeLemmas.{leads_derived, leads_on}
use Rattle.drup.proofs.step_judge.judge_addition.Goals as goal

pub returns-in-Ok-true-add-clause-leads : goal.returns-in-Ok-true-add-clause-leads
returns-in-Ok-true-add-clause-leads c =
    let added = subst (λ (b : Bool). AddedTo c.implied.new.self c.args.clause.now c.add.new.self b) c.in-Ok-true-add.field-0-test c.in-Ok-true-add.ensures in
    leads_derived c.args.propagator.now c.args.clause.now c.args.line (c.in-Ok-true.ensures.exact.0 c.in-Ok-true.field-0-test)
    (subst (λ (p : State). MeetsConflict (p.clauses ++ c.args.clause.now ∷ []) (in_list p.followed)) c.in-Ok-true.ensures.same added.1)

pub returns-in-Ok-false-add-clause-leads : goal.returns-in-Ok-false-add-clause-leads
returns-in-Ok-false-add-clause-leads c =
    let added = subst (λ (b : Bool). AddedTo c.implied.new.self c.args.clause.now c.add.new.self b) c.in-Ok-false-add.field-0-test c.in-Ok-false-add.ensures in
    leads_on c.args.propagator.now c.args.clause.now c.args.line c.add.new.self (c.in-Ok-true.ensures.exact.0 c.in-Ok-true.field-0-test)
    (subst (λ (p : State). Extended p c.args.clause.now c.add.new.self) c.in-Ok-true.ensures.same added)
