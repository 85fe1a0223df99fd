use Rattle.std.proofs.Common.{◌≡◌, ◌+◌, ◌≤◌, count_by, length, map}
use Rattle.wordings.specs.Orders.{is_named}
use Rattle.wordings.specs.Values.{said}
use Rattle.wordings.proofs.contents.times.Given as goal

abbrev pub invariant-loop-rest : goal.invariant-loop-rest
invariant-loop-rest l = record {
  times : l.times + count_by (is_named l.name) (map said l.rest) ≡ count_by (is_named l.name) (map said l.parts);
  small : l.times + length l.rest ≤ length l.parts;
}

abbrev pub decreases-loop-rest : goal.decreases-loop-rest
decreases-loop-rest l = length l.rest
