use Rattle.std.proofs.Common.{drop}
use Rattle.aigertext.specs.Ascii.{literal_lines}
use Rattle.base.proofs.PenLemmas.{Writing}
use Rattle.aigertext.proofs.writing.properties.put_literals.Given as goal

abbrev pub invariant-loop-literal : goal.invariant-loop-literal
invariant-loop-literal g l = Writing g.K.Sink.written g.K.Sink.failures l.initial.sink l.sink l.initial.pen l.pen (literal_lines l.literals) (literal_lines (drop l.literal-index l.literals))
