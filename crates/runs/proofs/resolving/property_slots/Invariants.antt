use Rattle.std.proofs.Common.{◌≡◌, map, take}
use Rattle.runs.specs.Nodes.{property_slot}
use Rattle.runs.proofs.resolving.property_slots.Given as goal

abbrev pub invariant-loop-place : goal.invariant-loop-place
invariant-loop-place l = l.named.items ≡ map (property_slot l.model) (take l.place-index l.places)
