use Rattle.std.proofs.Common.{◌≡◌, ℕ, ◌+◌, ◌*◌, ◌^◌, ◌<◌, ◌≤◌, ◌++◌, take, length}
use Rattle.deltas.specs.Deltas.{digits_128, delta}
use Rattle.deltas.proofs.writing.write_digits.Given as goal

abbrev pub invariant-loop-rest : goal.invariant-loop-rest
invariant-loop-rest l = record {
  more : ℕ;
  written : take l.end l.buffer ++ digits_128 more l.rest ≡ take l.at l.fn.buffer ++ delta l.number;
  small : l.rest < 128 * 128 ^ more;
  room : l.end + more ≤ l.at + 4;
  same : length l.buffer ≡ length l.fn.buffer;
}

abbrev pub decreases-loop-rest : goal.decreases-loop-rest
decreases-loop-rest l = l.rest
