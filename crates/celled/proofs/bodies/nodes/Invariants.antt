use Rattle.std.proofs.Common.{◌≡◌, map, take}
use Rattle.celled.specs.Spots.{spots_of}
use Rattle.celled.proofs.bodies.nodes.Given as goal

abbrev pub invariant-loop-id : goal.invariant-loop-id
invariant-loop-id l = l.out.items ≡ map (spots_of l.table).node (take l.id-index l.ids)
