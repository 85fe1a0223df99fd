use Rattle.std.proofs.Common.{◌≡◌, true, map}
use Rattle.std.specs.List.{list_all, range_with_len}
use Rattle.aiger.specs.Net.{variables}
use Rattle.aiger.specs.Circuit.{net, name_of}
use Rattle.witness_circuits.specs.Mapping.{shared_literal, is_inside}
use Rattle.witness_circuits.proofs.mapping.are_said_inside.Given as goal

abbrev pub invariant-loop-position : goal.invariant-loop-position
invariant-loop-position l = list_all (is_inside (variables (net l.circuit))) (map (λ position. shared_literal l.numbering (name_of l.witness l.section position)) (range_with_len 0 l.position)) ≡ true
