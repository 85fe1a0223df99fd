use Rattle.fulltext.specs.Writing.{written_full}
use Rattle.fulltext.proofs.StandsLemmas.{stands_read}
use Rattle.fulltext.proofs.WrittenLemmas.{written_stands}
use Rattle.fulltext.proofs.laws.texts_are_written.Goals as goal

pub returns-clause-stands : goal.returns-clause-stands
returns-clause-stands c = written_stands

pub returns-clause-read : goal.returns-clause-read
returns-clause-read c = λ text items stands. stands_read (written_full items) items (written_stands text items stands)
