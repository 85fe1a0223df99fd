use Rattle.fulljudge.proofs.CellsLemmas.{has_words, each_has_next}
use Rattle.fulljudge.proofs.laws.cells_are_words.Goals as goal

pub returns-clause-words : goal.returns-clause-words
returns-clause-words c = λ full celled w. has_words full w.places w.wide celled w.written w.cells

pub returns-clause-nexts : goal.returns-clause-nexts
returns-clause-nexts c = λ full celled w. each_has_next full w.places w.wide celled w.written w.cells

pub returns-clause-model : goal.returns-clause-model
returns-clause-model c = λ full celled w. w.cells.fits.well_formed
