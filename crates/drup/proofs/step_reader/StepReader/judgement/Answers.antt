use Rattle.std.proofs.Common.{sym, subst}
use Rattle.drup.specs.StepReaders.{StepReader, HasRead}
use Rattle.drup.proofs.StepReaderLemmas.{judges_read}
use Rattle.drup.proofs.step_reader.StepReader.judgement.Goals as goal

pub returns : goal.returns
returns c f reading h =
    judges_read f (record { judge = c.self.inside.judge; clause = c.self.inside.clause.items; deleting = c.self.inside.deleting; closed = c.self.inside.closed; failed = c.self.inside.failed }) reading c.judgement.result c.if-self.false (c.judgement.ensures.steps f) (c.judgement.ensures.fault f)
    (subst (λ (x : StepReader). HasRead f x reading) (sym c.self.view_is) h)
