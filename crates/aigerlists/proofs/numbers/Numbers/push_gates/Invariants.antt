use Rattle.std.proofs.Common.{◌≡◌, ◌++◌, map, take}
use Rattle.aigerlists.specs.Loose.{gate_variable}
use Rattle.aigerlists.proofs.numbers.Numbers.push_gates.Given as goal

abbrev pub invariant-loop-line : goal.invariant-loop-line
invariant-loop-line l = l.self ≡ l.fn.self ++ map gate_variable (take l.line-index l.lines)
