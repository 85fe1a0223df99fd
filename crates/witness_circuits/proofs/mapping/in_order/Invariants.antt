use Rattle.std.proofs.Common.{◌≡◌, map}
use Rattle.std.specs.List.{range_with_len}
use Rattle.witness_circuits.specs.Mapping.{in_place}
use Rattle.witness_circuits.proofs.mapping.in_order.Given as goal

abbrev pub invariant-loop-place : goal.invariant-loop-place
invariant-loop-place l = l.literals.items ≡ map (in_place l.first l.count) (range_with_len 0 l.place)
