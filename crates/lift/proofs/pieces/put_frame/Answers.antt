use Rattle.base.proofs.PenLemmas.{writes_then}
use Rattle.lift.specs.Lifted.{bits_of_line}
use Rattle.lift.proofs.PutLemmas.{frame_parts}
use Rattle.lift.proofs.pieces.put_frame.Goals as goal

pub returns : goal.returns
returns g c = rw (frame_parts c.args.named c.args.model.now c.args.frame (bits_of_line c.args.bits.now) c.items-items.ensures.well_formed) (writes_then c.put_free.ensures c.put_part.ensures)
