use Rattle.std.proofs.Common.{◌≡◌, replicate}
use Rattle.unfit.proofs.PieceLemmas.{fresh}
use Rattle.unfit.proofs.told_pieces.input_pieces.Given as goal

abbrev pub invariant-loop-input : goal.invariant-loop-input
invariant-loop-input l = l.pieces.items ≡ replicate l._input-index (fresh 0)
