use Rattle.base.proofs.PenLemmas.{writes_line, writes_then}
use Rattle.unfit.proofs.words.put_word.Goals as goal

pub returns : goal.returns
returns g c =
    writes_then (writes_then (rw (c.add_front.ensures, c.byte.ensures, c.clear.ensures) at (writes_line {p = c.args.pen.now} c.put_line.ensures)) c.put_digits.ensures)
    (rw (c.add_name.ensures, c.byte-2.ensures, c.clear-2.ensures) at (writes_line {p = c.put_digits.new.pen} c.put_line-2.ensures))
