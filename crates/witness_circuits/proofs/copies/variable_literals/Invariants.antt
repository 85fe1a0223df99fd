use Rattle.std.proofs.Common.{◌≡◌, ◌*◌, map}
use Rattle.std.specs.List.{range_with_len}
use Rattle.witness_circuits.proofs.copies.variable_literals.Given as goal

abbrev pub invariant-loop-k : goal.invariant-loop-k
invariant-loop-k l = l.literals.items ≡ map (λ k. 2 * k) (range_with_len 1 l.k)
