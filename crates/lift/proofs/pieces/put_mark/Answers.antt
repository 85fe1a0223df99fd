use Rattle.base.proofs.PenLemmas.{writes_line}
use Rattle.lift.proofs.pieces.put_mark.Goals as goal

pub returns : goal.returns
returns g c = rw (c.byte-2.ensures, c.number.ensures.digits, c.byte.ensures, c.clear.ensures) at (writes_line {p = c.args.pen.now} c.put_line.ensures)
