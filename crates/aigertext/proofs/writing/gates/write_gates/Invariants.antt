use Rattle.std.proofs.Common.{◌≡◌, ◌+◌, ◌*◌, ◌≤◌, ◌++◌, take, drop, length}
use Rattle.aigertext.specs.declared.forms.Form.TheVariants.{Binary}
use Rattle.aigertext.specs.Binary.{gates_text}
use Rattle.aigertext.proofs.writing.gates.write_gates.Given as goal

abbrev pub invariant-loop-gate : goal.invariant-loop-gate
invariant-loop-gate l = record {
  written : take l.end l.buffer ++ gates_text Binary l.variable (drop l.gate-index l.gates) ≡ gates_text Binary l.first l.gates;
  in_order : l.variable ≡ l.first + l.gate-index;
  room : l.end ≤ 10 * l.gate-index;
  same : length l.buffer ≡ 5120;
}
