use Rattle.std.proofs.Common.{ap, arith, length}
use Rattle.btor2.specs.Leaves.{list_of}
use Rattle.btor2.proofs.LeafLemmas.{place_within}
use Rattle.lift.proofs.pieces.leaf_item.Goals as goal

pub item_at-requires : goal.item_at-requires
item_at-requires c =
    rw c.items.ensures.items (place_within (list_of c.args.leaves) c.args.model.now c.places.result.now c.args.index c.places.ensures (omega (arith, c.requires, ap length c.places.ensures)))
