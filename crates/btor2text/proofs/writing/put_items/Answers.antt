use Rattle.std.proofs.Common.{arith}
use Rattle.base.proofs.PenLemmas.{write_none, write_more}
use Rattle.btor2text.proofs.WritingLemmas.{items_at, few_digits_at}
use Rattle.btor2text.proofs.writing.put_items.Goals as goal

pub put_item-requires : goal.put_item-requires
put_item-requires g c = few_digits_at c.args.items.now c.loop-item.item-index _ _ c.requires (omega arith) c.item-item.is

pub loop-item-init : goal.loop-item-init
loop-item-init g c = write_none

pub loop-item-preserved : goal.loop-item-preserved
loop-item-preserved g c = write_more c.loop-item.invariant c.put_item.ensures (items_at c.loop-item.item-index c.args.items.now _ _ (omega arith) c.item-item.is)
