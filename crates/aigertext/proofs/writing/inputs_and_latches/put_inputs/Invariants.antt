use Rattle.std.proofs.Common.{◌+◌, ◌-◌}
use Rattle.aigertext.specs.Ascii.{input_lines}
use Rattle.base.proofs.PenLemmas.{Writing}
use Rattle.aigertext.proofs.writing.inputs_and_latches.put_inputs.Given as goal

abbrev pub invariant-loop-index : goal.invariant-loop-index
invariant-loop-index g l = Writing g.K.Sink.written g.K.Sink.failures l.initial.sink l.sink l.initial.pen l.pen (input_lines 1 l.count) (input_lines (l.index + 1) (l.count - l.index))
