use Rattle.std.proofs.Common.{◌≡◌, replicate}
use Rattle.gates.proofs.bit_lists.repeated.Given as goal

abbrev pub invariant-loop : goal.invariant-loop
invariant-loop l = l.bits.items ≡ replicate l.counter l.lit
