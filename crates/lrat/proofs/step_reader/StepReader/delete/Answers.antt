use Rattle.drup.specs.Hints.{deletion}
use Rattle.lrat.specs.HintedProofs.{deletions}
use Rattle.lrat.specs.StepReaders.{reader_of}
use Rattle.lrat.proofs.StepReaderLemmas.{gives_step}
use Rattle.lrat.proofs.step_reader.StepReader.delete.Goals as goal

pub returns-clause-takes : goal.returns-clause-takes
returns-clause-takes c = gives_step (reader_of c.self.inside) c.args.self.now c.args.line (deletion c.args.id) deletions c.delete.new.self c.self.view_is c.requires c.delete.ensures.stands
