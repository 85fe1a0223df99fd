use Rattle.std.proofs.Common.{◌≡◌, length, map}
use Rattle.wordings.specs.Orders.{has}
use Rattle.wordings.specs.Values.{said}
use Rattle.wordings.proofs.contents.has.Given as goal

abbrev pub invariant-loop-rest : goal.invariant-loop-rest
invariant-loop-rest l = record {
  rest : has l.name (map said l.rest) ≡ has l.name (map said l.parts);
}

abbrev pub decreases-loop-rest : goal.decreases-loop-rest
decreases-loop-rest l = length l.rest
