use Rattle.aigertext.proofs.FrontLemmas.{no_line, first_line}
use Rattle.aigertext.proofs.reading.lines.line.Goals as goal

pub returns-in-None : goal.returns-in-None
returns-in-None c = rw c.stop.ensures (no_line c.args.text.now c.in-None.ensures)

pub returns-in-Some : goal.returns-in-Some
returns-in-Some c = first_line c.args.text.now c.in-Some.found.0.now c.in-Some.found.1.now c.in-Some.ensures.0 c.in-Some.ensures.1
