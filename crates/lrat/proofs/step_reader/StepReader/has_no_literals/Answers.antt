use Rattle.std.proofs.Common.{ap, ◌∙◌}
use Rattle.base.specs.Decimals.{is_nothing}
use Rattle.lrat.specs.StepReaders.{StepReader}
use Rattle.lrat.proofs.StepReaderLemmas.{literals_kept}
use Rattle.lrat.proofs.step_reader.StepReader.has_no_literals.Goals as goal

pub returns : goal.returns
returns c id clause is =
    let own = literals_kept c.self.inside.part c.self.inside.id c.self.inside.clause.items c.self.inside.hints.items id clause (ap (λ (x : StepReader). x.begun) c.self.view_is ∙ is) in
    c.is_nothing.ensures ∙ ap is_nothing (c.deref.ensures.value ∙ own.2)
