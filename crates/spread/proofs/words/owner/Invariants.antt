use Rattle.std.proofs.Common.{◌≡◌, ◌+◌, drop}
use Rattle.rejoin.specs.Pieces.{owner}
use Rattle.spread.proofs.words.owner.Given as goal

-- the words so far have none of the pieces that are left
abbrev pub invariant-loop-width : goal.invariant-loop-width
invariant-loop-width l = (l.index ≡ l.width-index) × (l.index + owner (drop l.width-index l.widths) l.left ≡ owner l.widths l.piece)
