use Rattle.std.proofs.Common.{◌≡◌, length, take}
use Rattle.witness.specs.BitTexts.{bit_line}
use Rattle.restore.proofs.digits.write_line.Given as goal

abbrev pub invariant-loop-place : goal.invariant-loop-place
invariant-loop-place l = record {
  written : take l.place l.line ≡ bit_line (take l.place l.bits);
  as_many : length l.line ≡ length l.bits;
}
