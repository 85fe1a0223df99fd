use Rattle.std.proofs.Common.{◌≡◌, ◌+◌, ◌≤◌, length, map}
use Rattle.wordings.specs.Orders.{files}
use Rattle.wordings.specs.Values.{said}
use Rattle.wordings.proofs.contents.file_total.Given as goal

abbrev pub invariant-loop-rest : goal.invariant-loop-rest
invariant-loop-rest l = record {
  total : l.total + length (files (map said l.rest)) ≡ length (files (map said l.parts));
  small : l.total + length l.rest ≤ length l.parts;
}

abbrev pub decreases-loop-rest : goal.decreases-loop-rest
decreases-loop-rest l = length l.rest
