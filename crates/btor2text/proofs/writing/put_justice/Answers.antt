use Rattle.base.proofs.PenLemmas.{writes_line, writes_then}
use Rattle.btor2text.proofs.WritingLemmas.{line_pieces}
use Rattle.btor2text.proofs.writing.put_justice.Goals as goal

pub returns : goal.returns
returns g c =
    let head = rw (c.add_head.ensures, c.clear.ensures) at (writes_line {p = c.args.pen.now} c.put_line.ensures) in
    let ids = rw c.requires.same at c.put_ids.ensures in
    let end = rw c.make_end.ensures.end at (writes_line {p = c.put_ids.new.pen} c.put_line-2.ensures) in
    rw (line_pieces c.args.item.now) (writes_then head (writes_then ids end))
