use Rattle.std.proofs.Common.{◌≡◌, take}
use Rattle.witness_circuits.specs.Made.{beside_literals}
use Rattle.witness_circuits.proofs.copies.beside_literals.Given as goal

abbrev pub invariant-loop-j : goal.invariant-loop-j
invariant-loop-j l = l.literals.items ≡ beside_literals l.table (take l.j l.shared) l.own
