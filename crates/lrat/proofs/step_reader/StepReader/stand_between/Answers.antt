use Rattle.std.proofs.Common.{refl}
use Rattle.lrat.specs.HintedProofs.{between}
use Rattle.lrat.specs.StepReaders.{reader_of}
use Rattle.lrat.proofs.StepReaderLemmas.{goes}
use Rattle.lrat.proofs.step_reader.StepReader.stand_between.Goals as goal

pub returns-clause-takes : goal.returns-clause-takes
returns-clause-takes c line = goes (reader_of c.self.inside) c.args.self.now line between between c.self.view_is c.requires refl
