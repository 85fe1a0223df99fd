use Rattle.std.proofs.Common.{drop}
use Rattle.aiger.specs.Circuit.{letter, section_names}
use Rattle.aigertext.specs.Ascii.{name_lines, names_of}
use Rattle.base.proofs.PenLemmas.{Writing}
use Rattle.aigertext.proofs.writing.names.put_names.Given as goal

abbrev pub invariant-loop-position : goal.invariant-loop-position
invariant-loop-position g l = Writing g.K.Sink.written g.K.Sink.failures l.initial.sink l.sink l.initial.pen l.pen (names_of l.circuit l.section) (name_lines (letter l.section) l.position (drop l.position (section_names l.section l.circuit)))
