use Rattle.std.proofs.Common.{ap, sym, subst, ◌∙◌}
use Rattle.drup.specs.StepReaders.{StepReader, StandsForWords}
use Rattle.drup.proofs.StepReaderLemmas.{stands_refused}
use Rattle.drup.proofs.step_reader.StepReader.refuse.Goals as goal

pub returns-clause-stands : goal.returns-clause-stands
returns-clause-stands c f marks s =
    stands_refused f (record { judge = c.self.inside.judge; clause = c.self.inside.clause.items; deleting = c.self.inside.deleting; closed = c.self.inside.closed; failed = c.self.inside.failed }) marks c.args.line c.args.why c.refuse.new.self (ap (λ (x : StepReader). x.closed) c.self.view_is ∙ c.requires)
    (c.refuse.ensures.judged f) (subst (λ (x : StepReader). StandsForWords f x marks) (sym c.self.view_is) s)
