use Rattle.std.proofs.Common.{take}
use Rattle.std.specs.List.{AllZip}
use Rattle.fitting.specs.Fitted.{node_ids}
use Rattle.fitting.specs.Laid.{HasPlace}
use Rattle.fitting.proofs.placed.node_places.Given as goal

abbrev pub invariant-loop-node : goal.invariant-loop-node
invariant-loop-node l = AllZip (HasPlace l.model) (node_ids (take l.node-index l.nodes)) l.places.items
