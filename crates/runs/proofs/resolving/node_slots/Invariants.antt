use Rattle.std.proofs.Common.{◌≡◌, length, map, take}
use Rattle.btor2.specs.Lists.{of_kind}
use Rattle.runs.specs.Frames.{has_value}
use Rattle.runs.specs.Nodes.{slot}
use Rattle.runs.proofs.resolving.node_slots.Given as goal

abbrev pub invariant-loop-place : goal.invariant-loop-place
invariant-loop-place l =
    record {
      slots : l.slots.items ≡ map (λ x. slot l.model x.id) (take l.place l.items);
      count : l.count ≡ length (of_kind has_value (take l.place l.items));
    }
