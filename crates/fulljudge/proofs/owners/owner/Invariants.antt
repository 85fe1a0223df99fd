use Rattle.std.proofs.Common.{◌<◌, ◌≤◌, ◌-◌, length}
use Rattle.fulljudge.specs.Shapes.{first_index}
use Rattle.fulljudge.proofs.owners.owner.Given as goal

-- the word stands between the first of a value and that of another behind it
abbrev pub invariant-loop-high : goal.invariant-loop-high
invariant-loop-high l =
    record {
      apart : l.low < l.high;
      most : l.high ≤ length l.values;
      from : first_index l.values l.low ≤ l.word;
      below : l.word < first_index l.values l.high;
    }

abbrev pub decreases-loop-high : goal.decreases-loop-high
decreases-loop-high l = l.high - l.low
