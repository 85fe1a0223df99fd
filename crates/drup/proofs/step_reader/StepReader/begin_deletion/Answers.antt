use Rattle.std.proofs.Common.{ap, sym, subst, ◌∙◌}
use Rattle.drup.specs.Proofs.{has_begun}
use Rattle.drup.specs.StepReaders.{StepReader, StandsForWords}
use Rattle.drup.proofs.StepReaderLemmas.{stands_within, stands_deleting}
use Rattle.drup.proofs.step_reader.StepReader.begin_deletion.Goals as goal

pub returns-then-has_begun-clause-stands : goal.returns-then-has_begun-clause-stands
returns-then-has_begun-clause-stands c f marks s =
    stands_within f c.args.self.now c.refuse.new.self marks c.args.line c.requires (λ ok. sym c.refuse.ensures.failed ∙ ok) (sym c.has_begun.ensures ∙ c.if-has_begun.true) (c.refuse.ensures.stands f marks) s

pub returns-clause-stands : goal.returns-clause-stands
returns-clause-stands c f marks s =
    stands_deleting f (record { judge = c.self.inside.judge; clause = c.self.inside.clause.items; deleting = c.self.inside.deleting; closed = c.self.inside.closed; failed = c.self.inside.failed }) marks c.args.line (ap (λ (x : StepReader). x.closed) c.self.view_is ∙ c.requires)
    (ap (λ (x : StepReader). has_begun x.deleting x.clause) c.self.view_is ∙ (sym c.has_begun.ensures ∙ c.if-has_begun.false)) (subst (λ (x : StepReader). StandsForWords f x marks) (sym c.self.view_is) s)
