use Rattle.std.proofs.Common.{◌≡◌, ◌+◌, drop}
use Rattle.aigertext.specs.Binary.{latches_text}
use Rattle.base.proofs.PenLemmas.{Writing}
use Rattle.aigertext.proofs.writing.inputs_and_latches.put_latches.Given as goal

abbrev pub invariant-loop-latch : goal.invariant-loop-latch
invariant-loop-latch g l = record {
  put : Writing g.K.Sink.written g.K.Sink.failures l.initial.sink l.sink l.initial.pen l.pen (latches_text l.form l.first l.latches) (latches_text l.form l.variable (drop l.latch-index l.latches));
  in_order : l.variable ≡ l.first + l.latch-index;
}
