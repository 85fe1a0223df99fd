use Rattle.std.proofs.Common.{◌≡◌, drop}
use Rattle.restore.specs.Reading.{initial_why}
use Rattle.restore.proofs.progress.initial_why.Given as goal

abbrev pub invariant-loop-byte : goal.invariant-loop-byte
invariant-loop-byte l = initial_why (drop l.byte-index l.line) ≡ initial_why l.line
