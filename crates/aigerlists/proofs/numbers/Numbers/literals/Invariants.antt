use Rattle.std.proofs.Common.{◌≡◌, map, take}
use Rattle.aigerlists.specs.Renumbering.{new_literal}
use Rattle.aigerlists.proofs.numbers.Numbers.literals.Given as goal

abbrev pub invariant-loop-lit : goal.invariant-loop-lit
invariant-loop-lit l = l.renumbered.items ≡ map (new_literal l.self) (take l.lit-index l.lits)
