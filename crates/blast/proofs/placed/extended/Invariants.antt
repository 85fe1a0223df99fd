use Rattle.std.proofs.Common.{◌≡◌, ◌++◌, replicate}
use Rattle.blast.proofs.placed.extended.Given as goal

abbrev pub invariant-loop : goal.invariant-loop
invariant-loop l = l.bits.items ≡ l.row ++ replicate l.counter l.above
