use Rattle.std.proofs.Common.{◌≡◌, ◌++◌, map, take}
use Rattle.aigerlists.specs.Numbering.{line_in, gate_name_at}
use Rattle.aigerlists.specs.Renumbering.{new_gate}
use Rattle.aigerlists.proofs.renumbering.gates_in_order.Given as goal

abbrev pub invariant-loop-gate : goal.invariant-loop-gate
invariant-loop-gate l =
    record {
      numbers : l.numbers ≡ l.fn.numbers ++ map (gate_name_at l.lines) (take l.gate-index l.order);
      gates : l.gates.items ≡ map (λ j. new_gate (l.fn.numbers ++ map (gate_name_at l.lines) l.order) (line_in l.lines j)) (take l.gate-index l.order);
    }
