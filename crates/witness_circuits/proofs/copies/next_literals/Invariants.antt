use Rattle.std.proofs.Common.{◌≡◌, take}
use Rattle.witness_circuits.specs.Made.{next_literals}
use Rattle.witness_circuits.proofs.copies.next_literals.Given as goal

abbrev pub invariant-loop-latch : goal.invariant-loop-latch
invariant-loop-latch l = l.literals.items ≡ next_literals l.table (take l.latch-index l.latches)
