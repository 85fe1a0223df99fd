use Rattle.std.proofs.Common.{◌≡◌, map, take}
use Rattle.aigerlists.specs.Renumbering.{new_literal}
use Rattle.aigerlists.proofs.renumbering.new_latches.Given as goal

abbrev pub invariant-loop-line : goal.invariant-loop-line
invariant-loop-line l = l.latches.items ≡ map (λ line. record { next = new_literal l.numbers line.next; reset = line.reset }) (take l.line-index l.lines)
