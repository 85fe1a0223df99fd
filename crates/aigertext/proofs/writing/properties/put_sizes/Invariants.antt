use Rattle.std.proofs.Common.{drop}
use Rattle.aigertext.specs.Ascii.{size_lines}
use Rattle.base.proofs.PenLemmas.{Writing}
use Rattle.aigertext.proofs.writing.properties.put_sizes.Given as goal

abbrev pub invariant-loop-index : goal.invariant-loop-index
invariant-loop-index g l = Writing g.K.Sink.written g.K.Sink.failures l.initial.sink l.sink l.initial.pen l.pen (size_lines l.circuit.justice) (size_lines (drop l.index l.circuit.justice))
