use Rattle.std.proofs.Common.{length}
use Rattle.pieces.proofs.cuts.+bits.Given as goal

abbrev pub decreases-bits : goal.decreases-bits
decreases-bits l = length l.nodes.now
