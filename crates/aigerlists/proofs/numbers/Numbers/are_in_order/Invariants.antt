use Rattle.std.proofs.Common.{ℕ, ◌<◌, ◌≤◌}
use Rattle.aigerlists.specs.Numbering.{slot_of, line_in}
use Rattle.aigerlists.proofs.numbers.Numbers.are_in_order.Given as goal

abbrev pub invariant-loop-at : goal.invariant-loop-at
invariant-loop-at l = (j : ℕ) → j < l.at → (slot_of l.self l.leaves (line_in l.lines j).rhs0 ≤ j) × (slot_of l.self l.leaves (line_in l.lines j).rhs1 ≤ j)
