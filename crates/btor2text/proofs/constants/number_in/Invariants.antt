use Rattle.std.proofs.Common.{◌≡◌, Some, take}
use Rattle.btor2text.specs.Digits.{number_in}
use Rattle.btor2text.proofs.constants.number_in.Given as goal

abbrev pub invariant-loop-byte : goal.invariant-loop-byte
invariant-loop-byte l = number_in l.radix (take l.byte-index l.bytes) ≡ Some l.number
