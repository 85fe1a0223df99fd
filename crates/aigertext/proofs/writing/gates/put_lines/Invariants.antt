use Rattle.std.proofs.Common.{◌≡◌, ◌+◌, drop}
use Rattle.aigertext.specs.declared.forms.Form.TheVariants.{Ascii}
use Rattle.aigertext.specs.Binary.{gates_text}
use Rattle.base.proofs.PenLemmas.{Writing}
use Rattle.aigertext.proofs.writing.gates.put_lines.Given as goal

abbrev pub invariant-loop-gate : goal.invariant-loop-gate
invariant-loop-gate g l = record {
  put : Writing g.K.Sink.written g.K.Sink.failures l.initial.sink l.sink l.initial.pen l.pen (gates_text Ascii l.first l.gates) (gates_text Ascii l.variable (drop l.gate-index l.gates));
  in_order : l.variable ≡ l.first + l.gate-index;
}
