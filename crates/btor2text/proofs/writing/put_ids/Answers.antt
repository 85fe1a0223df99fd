use Rattle.std.proofs.Common.{arith}
use Rattle.base.proofs.PenLemmas.{write_none, write_more, writes_line}
use Rattle.btor2text.proofs.WritingLemmas.{alone, numbers_at}
use Rattle.btor2text.proofs.writing.put_ids.Goals as goal

pub loop-id-init : goal.loop-id-init
loop-id-init g c = write_none

pub loop-id-preserved : goal.loop-id-preserved
loop-id-preserved g c =
    let line = rw (alone c.from.result _ _ c.add_number.ensures.digits c.clear.ensures) at (writes_line {p = c.loop-id.pen} c.put_line.ensures) in
    write_more c.loop-id.invariant line (numbers_at c.loop-id.id-index c.args.ids.now _ _ (omega arith) c.from.ensures)
