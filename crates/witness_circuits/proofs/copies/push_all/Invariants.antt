use Rattle.std.proofs.Common.{◌≡◌, ◌++◌, take}
use Rattle.witness_circuits.proofs.copies.push_all.Given as goal

abbrev pub invariant-loop-lit : goal.invariant-loop-lit
invariant-loop-lit l = l.table ≡ l.fn.table ++ take l.lit-index l.literals
