use Rattle.std.proofs.Common.{ap, sym, subst, ◌∙◌}
use Rattle.drup.specs.StepReaders.{StepReader, StandsForWords}
use Rattle.drup.proofs.StepReaderLemmas.{stands_literal}
use Rattle.drup.proofs.step_reader.StepReader.push.Goals as goal

pub returns-in-Ok-clause-stands : goal.returns-in-Ok-clause-stands
returns-in-Ok-clause-stands c f marks s =
    stands_literal f (record { judge = c.self.inside.judge; clause = c.self.inside.clause.items; deleting = c.self.inside.deleting; closed = c.self.inside.closed; failed = c.self.inside.failed }) marks c.args.line c.args.number c.push.new.self.items (ap (λ (x : StepReader). x.closed) c.self.view_is ∙ c.requires.open) c.in-Ok.ensures.items
    (subst (λ (x : StepReader). StandsForWords f x marks) (sym c.self.view_is) s)
