use Rattle.std.proofs.Common.{sym}
use Rattle.requests.proofs.LineLemmas.{up_to_end-line, up_to_end-last}
use Rattle.requests.proofs.told_lines.up_to_end.Goals as goal

pub returns-in-Some : goal.returns-in-Some
returns-in-Some c = rw c.in-Some.ensures.0 (sym (up_to_end-line c.in-Some.line.now _ c.in-Some.ensures.1))

pub returns-in-None : goal.returns-in-None
returns-in-None c = sym (up_to_end-last c.args.text.now c.in-None.ensures)
