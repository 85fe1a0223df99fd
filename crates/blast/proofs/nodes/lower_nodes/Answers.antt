use Rattle.std.proofs.Common.{◌≡◌, length, ap, arith}
use Rattle.blast.proofs.WidthLemmas.{item_read}
use Rattle.blast.proofs.NodeRows.{LowersFront-start, LowersNodes-from_front}
use Rattle.blast.proofs.nodes.lower_nodes.Goals as goal

pub loop-place-init : goal.loop-place-init
loop-place-init g c =
    LowersFront-start c.args.model.now c.args.gates.now c.new-table.result c.first_leaf-next.result c.requires.leaves c.new-table.ensures c.first_leaf-next.ensures.input c.first_leaf-next.ensures.free
    c.first_leaf-next.ensures.carried c.first_leaf-next.ensures.state

pub lower_item-requires : goal.lower_item-requires
lower_item-requires g c =
    record {
      well_formed = c.items-items.ensures.well_formed;
      at = item_read c.items-items.result.now c.args.model.now c.loop-place.place c.index-items-place.result c.items-items.ensures.items c.loop-place-test.true c.index-items-place.is;
      front = c.loop-place.invariant;
      fits = c.requires.fits;
    }

pub returns-clause-ok : goal.returns-clause-ok
returns-clause-ok g c =
    let all : c.loop-place.place ≡ length c.args.model.now = omega (arith, ap length c.items-items.ensures.items, c.loop-place-test.false, c.loop-place.auto.place-end) in
    LowersNodes-from_front c.args.model.now c.args.gates.now c.loop-place.gates c.loop-place.place c.loop-place.table c.loop-place.next c.requires.leaves all c.loop-place.invariant
