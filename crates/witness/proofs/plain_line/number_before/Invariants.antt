use Rattle.std.proofs.Common.{◌<◌}
use Rattle.witness.proofs.PlainLineLemmas.{IsRead}
use Rattle.witness.proofs.plain_line.number_before.Given as goal

-- the bytes before are the decimal of the value, which is not 0
abbrev pub invariant-loop-at : goal.invariant-loop-at
invariant-loop-at l = IsRead l.text l.at l.value × (0 < l.value)
