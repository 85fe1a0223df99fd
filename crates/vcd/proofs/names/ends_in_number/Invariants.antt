use Rattle.std.proofs.Common.{◌≡◌, take}
use Rattle.vcd.specs.Names.{ends_in_number}
use Rattle.vcd.proofs.names.ends_in_number.Given as goal

abbrev pub invariant-loop-byte : goal.invariant-loop-byte
invariant-loop-byte l = l.ends ≡ ends_in_number (take l.byte-index l.name)
