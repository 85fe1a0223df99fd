use Rattle.std.proofs.Common.{◌≡◌, ◌++◌, drop}
use Rattle.aigertext.specs.InOrder.{line_texts}
use Rattle.aigertext.proofs.reading.any_order.append_lines.Given as goal

abbrev pub invariant-loop-gate : goal.invariant-loop-gate
invariant-loop-gate l = l.text.items ++ line_texts (drop l.gate-index l.gates) ≡ l.initial.text.items ++ line_texts l.gates
