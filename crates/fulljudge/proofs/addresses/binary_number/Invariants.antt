use Rattle.std.proofs.Common.{take}
use Rattle.witness.specs.WordValues.{IsValueOf}
use Rattle.fulljudge.proofs.addresses.binary_number.Given as goal

-- the digits so far write the number
abbrev pub invariant-loop-byte : goal.invariant-loop-byte
invariant-loop-byte l = IsValueOf l.number (take l.byte-index l.digits)
