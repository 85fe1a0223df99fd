use Rattle.std.proofs.Common.{◌≡◌, ◌+◌, drop}
use Rattle.rejoin.specs.Pieces.{owner}
use Rattle.unfit.proofs.unfitting.owner.Given as goal

abbrev pub invariant-loop-index : goal.invariant-loop-index
invariant-loop-index l = owner l.widths l.piece ≡ l.index + owner (drop l.index l.widths) l.rest
