use Rattle.std.proofs.Common.{take, get_or, sym, subst₂, arith}
use Rattle.std.specs.List.{AllZip}
use Rattle.pieces.specs.declared.node.Node.{Node}
use Rattle.fitting.specs.Fitted.{node_ids}
use Rattle.fitting.specs.Laid.{HasPlace}
use Rattle.fitting.proofs.PlaceLemmas.{zip_more, ids_next}
use Rattle.fitting.proofs.placed.node_places.Goals as goal

pub loop-node-preserved : goal.loop-node-preserved
loop-node-preserved c =
    let items = c.args.model.now in
    let nodes = c.args.nodes.now in
    let k = c.loop-node.node-index in
    let none : Node = record { id = 0; width = 0 } in
    subst₂ (AllZip (HasPlace items)) (sym (ids_next nodes k none (omega arith))) (sym c.in_ok-push.ensures.items)
    (zip_more (HasPlace items) (node_ids (take k nodes)) c.loop-node.places.items (get_or nodes k none).id c.place_of.result c.loop-node.invariant c.place_of.ensures)
