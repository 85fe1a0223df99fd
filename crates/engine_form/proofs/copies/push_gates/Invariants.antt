use Rattle.std.proofs.Common.{◌≡◌, ◌++◌, take}
use Rattle.engine_form.proofs.copies.push_gates.Given as goal

abbrev pub invariant-loop-gate : goal.invariant-loop-gate
invariant-loop-gate l = l.made ≡ record l.fn.made { gates = l.fn.made.gates ++ take l.gate-index l.gates }
