use Rattle.std.proofs.Common.{◌≡◌, take, sum_by}
use Rattle.btor2.specs.Lists.{places}
use Rattle.btor2.specs.Leaves.{list_of, leaf_width}
use Rattle.btor2.proofs.leaves.Leaves.bits.Given as goal

abbrev pub invariant-loop-k : goal.invariant-loop-k
invariant-loop-k l = l.total ≡ sum_by (leaf_width l.model l.self) (take l.k (places (list_of l.self) 0 l.model))
