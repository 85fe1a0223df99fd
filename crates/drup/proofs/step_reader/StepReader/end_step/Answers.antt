use Rattle.std.proofs.Common.{ℕ, List, [], ◌∷◌, ◌++◌, ap, sym, subst, ◌∙◌}
use Rattle.drup.specs.Proofs.{Ended, ended, step_of}
use Rattle.drup.specs.StepJudges.{StandsForSteps}
use Rattle.drup.specs.StepReaders.{StepReader, StandsForWords}
use Rattle.drup.proofs.StepReaderLemmas.{stands_end}
use Rattle.drup.proofs.step_reader.StepReader.end_step.Goals as goal

pub returns-clause-stands : goal.returns-clause-stands
returns-clause-stands c f marks s =
    stands_end f (record { judge = c.self.inside.judge; clause = c.self.inside.clause.items; deleting = c.self.inside.deleting; closed = c.self.inside.closed; failed = c.self.inside.failed }) marks c.args.line c.judge_step.new.judge c.clear.new.self.items (ap (λ (x : StepReader). x.closed) c.self.view_is ∙ c.requires) c.clear.ensures.items
    (subst (λ (t : List ℕ). (steps : List Ended) → StandsForSteps f steps c.self.inside.judge → StandsForSteps f (steps ++ ended c.args.line (step_of c.self.inside.deleting t) ∷ []) c.judge_step.new.judge) c.deref_mut.ensures.value (c.judge_step.ensures.stands f))
    (subst (λ (x : StepReader). StandsForWords f x marks) (sym c.self.view_is) s)
