use Rattle.std.proofs.Common.{refl, arith}
use Rattle.base.proofs.PenLemmas.{write_none, write_more}
use Rattle.vcd.proofs.PartLemmas.{title_at}
use Rattle.vcd.proofs.names.put_title.Goals as goal

pub loop-byte-init : goal.loop-byte-init
loop-byte-init g c = write_none

pub loop-byte-preserved : goal.loop-byte-preserved
loop-byte-preserved g c = write_more c.loop-byte.invariant c.put.ensures (title_at c.loop-byte.byte-index c.args.title.now _ _ _ (omega arith) refl c.title_byte.ensures)
