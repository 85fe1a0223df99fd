use Rattle.std.proofs.Common.{◌≡◌, map, take}
use Rattle.celled.specs.Spots.{spots_of}
use Rattle.celled.proofs.table.Table.nodes_of.Given as goal

abbrev pub invariant-loop-id : goal.invariant-loop-id
invariant-loop-id l = l.nodes.items ≡ map (spots_of l.self).node (take l.id-index l.ids)
