use Rattle.btor2text.specs.Writing.{written}
use Rattle.btor2text.proofs.StandsLemmas.{stands_read}
use Rattle.btor2text.proofs.WrittenLemmas.{written_stands}
use Rattle.btor2text.proofs.laws.read_back.Goals as goal

pub returns-clause-stands : goal.returns-clause-stands
returns-clause-stands c = written_stands

pub returns-clause-read : goal.returns-clause-read
returns-clause-read c = λ items well writable. stands_read (written items) items (written_stands items well writable)
