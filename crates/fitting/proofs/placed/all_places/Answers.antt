use Rattle.std.proofs.Common.{take, get_or, sym, subst₂, arith}
use Rattle.std.specs.List.{AllZip}
use Rattle.fitting.specs.Laid.{IsLaid}
use Rattle.fitting.specs.Tables.{layout_of}
use Rattle.fitting.proofs.PlaceLemmas.{zip_more, take_next}
use Rattle.fitting.proofs.placed.all_places.Goals as goal

pub loop-node-preserved : goal.loop-node-preserved
loop-node-preserved g c =
    let f = c.args.fitter.now in
    let nodes = c.args.nodes.now in
    let k = c.loop-node.node-index in
    let row = c.in_ok-add_places.ensures.laid in
    subst₂ (AllZip (IsLaid g.wide f.maker (layout_of f))) (sym (take_next nodes k 0 (omega arith))) (sym row.1)
    (zip_more (IsLaid g.wide f.maker (layout_of f)) (take k nodes) c.loop-node.places (get_or nodes k 0) row.0 c.loop-node.invariant row.2)
