use Rattle.std.proofs.Common.{◌≡◌, length}
use Rattle.base.specs.Lines.{whole_lines}
use Rattle.requests.specs.Told.{lines_said}
use Rattle.subcommands.proofs.SubjectLemmas.{Told}
use Rattle.requests.proofs.told_lines.write_lines.Given as goal

abbrev pub invariant-loop-line : goal.invariant-loop-line
invariant-loop-line g l = record {
  told : Told (g.O.Sink.written l.initial.out) (g.O.Sink.written l.out) (lines_said l.number (whole_lines l.text)) (lines_said l.number (whole_lines l.rest));
  counted : g.O.Sink.failures l.out ≡ g.O.Sink.failures l.initial.out;
}

abbrev pub decreases-loop-line : goal.decreases-loop-line
decreases-loop-line g l = length (whole_lines l.rest)
