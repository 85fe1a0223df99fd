use Rattle.std.proofs.Common.{◌≡◌, map, take}
use Rattle.unfit.specs.Joined.{state_words}
use Rattle.unfit.proofs.PieceLemmas.{fresh}
use Rattle.unfit.proofs.told_pieces.state_pieces.Given as goal

abbrev pub invariant-loop-k : goal.invariant-loop-k
invariant-loop-k l = l.pieces.items ≡ map fresh (take l.k (state_words l.model))
