use Rattle.std.proofs.Common.{◌≡◌, map}
use Rattle.std.specs.List.{range_with_len}
use Rattle.aiger.specs.Circuit.{name_of}
use Rattle.witness_circuits.specs.Mapping.{shared_literal}
use Rattle.witness_circuits.proofs.mapping.said_in.Given as goal

abbrev pub invariant-loop-position : goal.invariant-loop-position
invariant-loop-position l = l.said.items ≡ map (λ position. shared_literal l.numbering (name_of l.witness l.section position)) (range_with_len 0 l.position)
