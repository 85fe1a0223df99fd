use Rattle.std.proofs.Common.{◌≡◌, map, take}
use Rattle.aigerlists.specs.Renumbering.{new_gate}
use Rattle.aigerlists.proofs.renumbering.gates_as_they_stand.Given as goal

abbrev pub invariant-loop-line : goal.invariant-loop-line
invariant-loop-line l = l.gates.items ≡ map (new_gate l.numbers) (take l.line-index l.lines)
