use Rattle.std.proofs.Common.{[], ◌∷◌, ◌++◌, ap, ◌∙◌}
use Rattle.lrat.specs.HintedProofs.{hints, goes_on}
use Rattle.lrat.specs.StepReaders.{StepReader, reader_of, begun_of}
use Rattle.lrat.proofs.StepReaderLemmas.{goes, takes_failed, hint_more}
use Rattle.lrat.proofs.step_reader.StepReader.push_hint.Goals as goal

pub returns-in-Ok-clause-takes : goal.returns-in-Ok-clause-takes
returns-in-Ok-clause-takes c line id clause before is =
    goes (reader_of c.self.inside) c.args.self.now line (hints id clause (before ++ c.args.hint ∷ [])) (begun_of c.self.inside.part c.self.inside.id c.self.inside.clause.items c.push.new.self.items) c.self.view_is c.requires
    (hint_more c.self.inside.part c.self.inside.id c.self.inside.clause.items c.self.inside.hints.items id clause before c.args.hint c.push.new.self.items (ap (λ (x : StepReader). x.begun) c.self.view_is ∙ is) c.in-Ok.ensures.items)

pub returns-in-Err-clause-takes : goal.returns-in-Err-clause-takes
returns-in-Err-clause-takes c line id clause before is = takes_failed c.args.self.now c.fail.new.self line (goes_on (hints id clause (before ++ c.args.hint ∷ []))) c.fail.ensures.failed
