use Rattle.std.proofs.Common.{◌≡◌, length}
use Rattle.base.specs.Lines.{whole_lines, unfinished}
use Rattle.fulltext.specs.Reading.{full_lines_on}
use Rattle.fulltext.proofs.reading.read_lines.Given as goal

abbrev pub invariant-loop-front : goal.invariant-loop-front
invariant-loop-front l = full_lines_on l.line l.model (whole_lines l.rest) (unfinished l.rest) ≡ full_lines_on 0 l.fn.model (whole_lines l.text) (unfinished l.text)

abbrev pub decreases-loop-front : goal.decreases-loop-front
decreases-loop-front l = length l.rest
