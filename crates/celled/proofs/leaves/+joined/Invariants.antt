use Rattle.celled.proofs.leaves.+joined.Given as goal

abbrev pub decreases-joined : goal.decreases-joined
decreases-joined l = l.count
