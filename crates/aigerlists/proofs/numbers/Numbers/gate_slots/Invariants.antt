use Rattle.std.proofs.Common.{◌≡◌, take}
use Rattle.aigerlists.specs.Numbering.{slots_of}
use Rattle.aigerlists.proofs.numbers.Numbers.gate_slots.Given as goal

abbrev pub invariant-loop-line : goal.invariant-loop-line
invariant-loop-line l = l.slots.items ≡ slots_of l.self l.leaves (take l.line-index l.lines)
