use Rattle.std.proofs.Common.{◌-◌, take, length}
use Rattle.witness.proofs.EightDigitLemmas.{IsBehind}
use Rattle.witness.proofs.word_value.known_behind.Given as goal

-- the bytes before are digits
abbrev pub invariant-loop-byte : goal.invariant-loop-byte
invariant-loop-byte l = IsBehind l.front (64 - length l.bytes) l.word (take l.byte-index l.bytes)
