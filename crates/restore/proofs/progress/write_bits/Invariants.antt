use Rattle.std.proofs.Common.{◌≡◌, length, take}
use Rattle.restore.specs.Reading.{line_bits}
use Rattle.restore.proofs.progress.write_bits.Given as goal

abbrev pub invariant-loop-place : goal.invariant-loop-place
invariant-loop-place l = record {
  written : take l.place l.bits ≡ line_bits (take l.place l.line);
  as_many : length l.bits ≡ length l.line;
}
