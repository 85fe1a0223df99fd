use Rattle.std.proofs.Common.{◌≡◌, ◌++◌, take, drop}
use Rattle.unfit.specs.Steps.{untold}
use Rattle.unfit.proofs.told_pieces.forget.Given as goal

abbrev pub invariant-loop-piece : goal.invariant-loop-piece
invariant-loop-piece l = l.pieces ≡ untold (take l.piece-index l.fn.pieces) ++ drop l.piece-index l.fn.pieces
