use Rattle.std.proofs.Common.{◌≡◌, length, map}
use Rattle.wordings.specs.Orders.{value}
use Rattle.wordings.specs.Values.{said}
use Rattle.wordings.proofs.contents.value.Given as goal

abbrev pub invariant-loop-rest : goal.invariant-loop-rest
invariant-loop-rest l = record {
  rest : value l.name (map said l.rest) ≡ value l.name (map said l.parts);
}

abbrev pub decreases-loop-rest : goal.decreases-loop-rest
decreases-loop-rest l = length l.rest
