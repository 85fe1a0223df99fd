use Rattle.std.proofs.Common.{decimal}
use Rattle.aiger.specs.Names.{letter}
use Rattle.aigertext.proofs.SectionLemmas.{name_parts}
use Rattle.base.proofs.PenLemmas.{writes_line, writes_then}
use Rattle.aigertext.proofs.writing.names.put_name.Goals as goal

pub returns : goal.returns
returns g c =
    let place = rw (c.byte.ensures, c.letter.ensures, c.before-2.ensures.digits, c.clear.ensures) at (writes_line {p = c.args.pen.now} c.put_line.ensures) in
    rw (name_parts (letter c.args.section) (decimal c.args.position) c.args.name.now) (writes_then place (writes_then c.put.ensures c.put-2.ensures))
