use Rattle.std.proofs.Common.{◌≡◌, [], ◌∷◌, ◌++◌, ap, subst, ◌∙◌}
use Rattle.drup.specs.Hints.{HintedStep, addition, ended}
use Rattle.drup.specs.HintedJudges.{StandsForHinted}
use Rattle.lrat.specs.HintedProofs.{between}
use Rattle.lrat.specs.StepReaders.{StepReader, reader_of}
use Rattle.lrat.proofs.StepReaderLemmas.{gives_step, hints_kept}
use Rattle.lrat.proofs.step_reader.StepReader.end_addition.Goals as goal

pub returns-clause-takes : goal.returns-clause-takes
returns-clause-takes c id clause before is =
    let own = hints_kept c.self.inside.part c.self.inside.id c.self.inside.clause.items c.self.inside.hints.items id clause before (ap (λ (x : StepReader). x.begun) c.self.view_is ∙ is) in
    let same : addition c.self.inside.id c.deref.result.now c.deref-2.result.now ≡ addition id clause before = cc (own.1, c.deref.ensures.value ∙ own.2, c.deref-2.ensures.value ∙ own.3) in
    gives_step (reader_of c.self.inside) c.args.self.now c.args.line (addition id clause before) between c.add.new.self c.self.view_is c.requires
    (λ f steps s. subst (λ (step : HintedStep). StandsForHinted f (steps ++ ended c.args.line step ∷ []) c.add.new.self) same (c.add.ensures.stands f steps s))
