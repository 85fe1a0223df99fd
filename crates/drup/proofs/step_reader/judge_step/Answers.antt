use Rattle.std.proofs.Common.{Bool, [], ◌∷◌, ◌++◌, sym, subst}
use Rattle.drup.specs.Proofs.{ended, step_of}
use Rattle.drup.specs.StepJudges.{StandsForSteps}
use Rattle.drup.proofs.step_reader.judge_step.Goals as goal

pub returns-then-deleting-clause-stands : goal.returns-then-deleting-clause-stands
returns-then-deleting-clause-stands c f steps s =
    subst (λ (d : Bool). StandsForSteps f (steps ++ ended c.args.line (step_of d c.args.clause.now) ∷ []) c.delete.new.self) (sym c.if-deleting.true) (c.delete.ensures.stands f steps s)

pub returns-clause-stands : goal.returns-clause-stands
returns-clause-stands c f steps s =
    subst (λ (d : Bool). StandsForSteps f (steps ++ ended c.args.line (step_of d c.args.clause.now) ∷ []) c.add.new.self) (sym c.if-deleting.false) (c.add.ensures.stands f steps s)
