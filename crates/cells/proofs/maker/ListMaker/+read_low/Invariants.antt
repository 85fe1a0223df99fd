use Rattle.cells.proofs.maker.ListMaker.+read_low.Given as goal

abbrev pub decreases-read_low : goal.decreases-read_low
decreases-read_low l = l.bits
