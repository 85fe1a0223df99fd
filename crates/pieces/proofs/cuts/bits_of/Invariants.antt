use Rattle.std.proofs.Common.{◌≡◌, take}
use Rattle.pieces.specs.Nodes.{bits_in}
use Rattle.pieces.proofs.cuts.bits_of.Given as goal

abbrev pub invariant-loop-i : goal.invariant-loop-i
invariant-loop-i l = l.total ≡ bits_in (take l.i l.nodes)
