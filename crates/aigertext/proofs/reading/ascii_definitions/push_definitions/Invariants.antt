use Rattle.std.proofs.Common.{◌≡◌, ◌-◌}
use Rattle.aigertext.specs.AsciiReading.{onto_lists}
use Rattle.aigertext.proofs.reading.ascii_definitions.push_definitions.Given as goal

abbrev pub invariant-loop-index : goal.invariant-loop-index
invariant-loop-index g l =
    let d = g.D.Definition in
    onto_lists (d.says l.greatest) d.with_line l.lists (l.count - l._index) l.rest ≡ onto_lists (d.says l.greatest) d.with_line l.initial.lists l.count l.fn.text
