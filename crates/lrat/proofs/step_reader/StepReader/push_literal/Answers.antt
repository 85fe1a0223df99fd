use Rattle.std.proofs.Common.{[], ◌∷◌, ◌++◌, ap, ◌∙◌}
use Rattle.lrat.specs.HintedProofs.{literals, goes_on}
use Rattle.lrat.specs.StepReaders.{StepReader, reader_of, begun_of}
use Rattle.lrat.proofs.StepReaderLemmas.{goes, takes_failed, literal_more}
use Rattle.lrat.proofs.step_reader.StepReader.push_literal.Goals as goal

pub returns-in-Ok-clause-takes : goal.returns-in-Ok-clause-takes
returns-in-Ok-clause-takes c line id clause is =
    goes (reader_of c.self.inside) c.args.self.now line (literals id (clause ++ c.args.literal ∷ [])) (begun_of c.self.inside.part c.self.inside.id c.push.new.self.items c.self.inside.hints.items) c.self.view_is c.requires.open
    (literal_more c.self.inside.part c.self.inside.id c.self.inside.clause.items c.self.inside.hints.items id clause c.args.literal c.push.new.self.items (ap (λ (x : StepReader). x.begun) c.self.view_is ∙ is) c.in-Ok.ensures.items)

pub returns-in-Err-clause-takes : goal.returns-in-Err-clause-takes
returns-in-Err-clause-takes c line id clause is = takes_failed c.args.self.now c.fail.new.self line (goes_on (literals id (clause ++ c.args.literal ∷ []))) c.fail.ensures.failed
