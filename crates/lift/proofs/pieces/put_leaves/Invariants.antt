use Rattle.std.proofs.Common.{drop}
use Rattle.base.proofs.PenLemmas.{Writing}
use Rattle.btor2.specs.Lists.{places}
use Rattle.btor2.specs.Leaves.{list_of}
use Rattle.lift.specs.Lifted.{bits_of_line, names}
use Rattle.lift.specs.Placed.{placed_lines, leaf_lines}
use Rattle.lift.proofs.pieces.put_leaves.Given as goal

abbrev pub invariant-loop-index : goal.invariant-loop-index
invariant-loop-index g l = Writing g.K.Sink.written g.K.Sink.failures l.initial.sink l.sink l.initial.pen l.pen (leaf_lines l.leaves l.model (names l.named l.frame) (bits_of_line l.bits)) (placed_lines l.leaves l.model (names l.named l.frame) l.index (drop l.index (places (list_of l.leaves) 0 l.model)) (bits_of_line l.rest))
