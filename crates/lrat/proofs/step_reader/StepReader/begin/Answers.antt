use Rattle.std.proofs.Common.{[], ap}
use Rattle.lrat.specs.HintedProofs.{literals}
use Rattle.lrat.specs.StepReaders.{reader_of}
use Rattle.lrat.proofs.StepReaderLemmas.{goes}
use Rattle.lrat.proofs.step_reader.StepReader.begin.Goals as goal

pub returns-clause-takes : goal.returns-clause-takes
returns-clause-takes c line = goes (reader_of c.self.inside) c.args.self.now line (literals c.args.id []) (literals c.args.id c.clear.new.self.items) c.self.view_is c.requires (ap (literals c.args.id) c.clear.ensures.items)
