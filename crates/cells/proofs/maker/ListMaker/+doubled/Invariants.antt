use Rattle.cells.proofs.maker.ListMaker.+doubled.Given as goal

abbrev pub decreases-doubled : goal.decreases-doubled
decreases-doubled l = l.bits
