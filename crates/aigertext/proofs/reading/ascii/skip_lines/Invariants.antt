use Rattle.std.proofs.Common.{◌≡◌, ◌-◌}
use Rattle.aigertext.specs.AsciiReading.{behind_lines}
use Rattle.aigertext.proofs.reading.ascii.skip_lines.Given as goal

abbrev pub invariant-loop-index : goal.invariant-loop-index
invariant-loop-index l = behind_lines (l.count - l._index) l.rest ≡ behind_lines l.count l.fn.text
