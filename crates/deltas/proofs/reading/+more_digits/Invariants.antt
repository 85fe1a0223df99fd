use Rattle.deltas.proofs.reading.+more_digits.Given as goal

abbrev pub decreases-more_digits : goal.decreases-more_digits
decreases-more_digits l = l.more
