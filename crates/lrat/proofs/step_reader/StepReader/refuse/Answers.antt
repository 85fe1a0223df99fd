use Rattle.lrat.specs.StepReaders.{reader_of}
use Rattle.lrat.proofs.StepReaderLemmas.{refuses_word}
use Rattle.lrat.proofs.step_reader.StepReader.refuse.Goals as goal

pub returns-clause-takes : goal.returns-clause-takes
returns-clause-takes c = refuses_word (reader_of c.self.inside) c.args.self.now c.args.line c.args.why c.refuse.new.self c.self.view_is c.requires c.refuse.ensures.judged
