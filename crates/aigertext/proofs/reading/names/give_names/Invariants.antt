use Rattle.std.proofs.Common.{◌≡◌, length}
use Rattle.base.specs.Lines.{whole_lines, unfinished}
use Rattle.aigertext.specs.Reading.{names_on}
use Rattle.aigertext.proofs.reading.names.give_names.Given as goal

abbrev pub invariant-loop-line : goal.invariant-loop-line
invariant-loop-line l = names_on l.circuit (whole_lines l.rest) (unfinished l.rest) ≡ names_on l.fn.circuit (whole_lines l.fn.text) (unfinished l.fn.text)

abbrev pub decreases-loop-line : goal.decreases-loop-line
decreases-loop-line l = length l.rest
