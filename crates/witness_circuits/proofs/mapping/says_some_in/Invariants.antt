use Rattle.std.proofs.Common.{◌≡◌, ℕ, Option, false, map, is_some}
use Rattle.std.specs.List.{list_any, range_with_len}
use Rattle.aiger.specs.Circuit.{name_of}
use Rattle.witness_circuits.specs.Mapping.{shared_literal}
use Rattle.witness_circuits.proofs.mapping.says_some_in.Given as goal

abbrev pub invariant-loop-position : goal.invariant-loop-position
invariant-loop-position l = list_any (λ (l : Option ℕ). is_some l) (map (λ position. shared_literal l.numbering (name_of l.witness l.section position)) (range_with_len 0 l.position)) ≡ false
