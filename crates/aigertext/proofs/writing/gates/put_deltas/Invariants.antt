use Rattle.std.proofs.Common.{◌+◌, ◌≤◌, length}
use Rattle.aiger.specs.Net.{AreOrderedFrom}
use Rattle.aigertext.specs.declared.forms.Form.TheVariants.{Binary}
use Rattle.aigertext.specs.Binary.{gates_text}
use Rattle.base.proofs.PenLemmas.{Writing}
use Rattle.aigertext.proofs.writing.gates.put_deltas.Given as goal

abbrev pub invariant-loop-rest : goal.invariant-loop-rest
invariant-loop-rest g l = record {
  put : Writing g.K.Sink.written g.K.Sink.failures l.initial.sink l.sink l.initial.pen l.pen (gates_text Binary l.first l.fn.gates) (gates_text Binary l.variable l.rest);
  few : l.variable + length l.rest ≤ 1073741825;
  ordered : AreOrderedFrom l.variable l.rest;
}

abbrev pub decreases-loop-rest : goal.decreases-loop-rest
decreases-loop-rest g l = length l.rest
