use Rattle.std.proofs.Common.{◌≡◌, ◌<◌, take, decimal}
use Rattle.aigertext.proofs.reading.plain_numbers.number_before.Given as goal

-- the bytes before are the decimal of the value, which is not 0
abbrev pub invariant-loop-at : goal.invariant-loop-at
invariant-loop-at l = record {
  read : take l.at l.text ≡ decimal l.value;
  some : 0 < l.value;
}
