use Rattle.std.proofs.Common.{◌≡◌, ◌-◌}
use Rattle.aigertext.specs.Passes.{onto}
use Rattle.aigertext.specs.Reading.{literals_at}
use Rattle.aigertext.proofs.reading.properties.read_literals.Given as goal

abbrev pub invariant-loop-index : goal.invariant-loop-index
invariant-loop-index l = onto l.list.items (literals_at l.greatest (l.count - l._index) l.rest) ≡ literals_at l.greatest l.count l.fn.text
