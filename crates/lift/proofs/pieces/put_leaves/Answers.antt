use Rattle.std.proofs.Common.{arith, length, ap, refl}
use Rattle.base.proofs.PenLemmas.{write_none, write_more}
use Rattle.lift.specs.Lifted.{bits_of_line, names}
use Rattle.lift.proofs.PutLemmas.{leaves_step, bits_before, bits_behind}
use Rattle.lift.proofs.pieces.put_leaves.Goals as goal

pub loop-index-init : goal.loop-index-init
loop-index-init g c = write_none

pub loop-index-preserved : goal.loop-index-preserved
loop-index-preserved g c =
    write_more c.loop-index.invariant c.put_leaf.ensures
    (leaves_step c.args.leaves c.args.model.now (names c.args.named c.args.frame) c.loop-index.index _ _ _ _ _ _ (bits_of_line c.cut.result.1.now) (omega (arith, c.loop-index-test.true, ap length c.places-index-end.ensures)) c.width.ensures.value c.has.ensures c.leaf_item-item.ensures (bits_before c.cut.result.0.now c.loop-index.rest.now _ c.cut.ensures.front) (bits_behind c.cut.result.1.now c.loop-index.rest.now _ _ c.cut.ensures.behind refl))
