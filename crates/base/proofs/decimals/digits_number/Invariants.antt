use Rattle.std.proofs.Common.{◌≡◌, take, true}
use Rattle.base.specs.Decimals.{are_digits, capped_value}
use Rattle.base.proofs.decimals.digits_number.Given as goal

-- the bytes before are digits, and the value is what they write
abbrev pub invariant-loop-byte : goal.invariant-loop-byte
invariant-loop-byte l = (are_digits (take l.byte-index l.bytes) ≡ true) × (l.value ≡ capped_value (take l.byte-index l.bytes))
