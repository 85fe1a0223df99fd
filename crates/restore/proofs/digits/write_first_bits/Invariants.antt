use Rattle.std.proofs.Common.{◌≡◌, ◌++◌, length, take, drop}
use Rattle.engine_form.specs.EngineForm.{first_bits}
use Rattle.restore.proofs.digits.write_first_bits.Given as goal

abbrev pub invariant-loop-place : goal.invariant-loop-place
invariant-loop-place l = record {
  written : take l.place l.bits ++ first_bits (drop l.place l.latches) l.left ≡ first_bits l.latches l.given;
  as_many : length l.bits ≡ length l.latches;
}
