use Rattle.std.proofs.Common.{take}
use Rattle.std.specs.List.{AllZip}
use Rattle.fitting.specs.Laid.{IsLaid}
use Rattle.fitting.specs.Tables.{layout_of}
use Rattle.fitting.proofs.placed.all_places.Given as goal

abbrev pub invariant-loop-node : goal.invariant-loop-node
invariant-loop-node g l = AllZip (IsLaid g.wide l.fitter.maker (layout_of l.fitter)) (take l.node-index l.nodes) l.places

abbrev pub ghost-add_places : goal.ghost-add_places
ghost-add_places g a = g.wide
