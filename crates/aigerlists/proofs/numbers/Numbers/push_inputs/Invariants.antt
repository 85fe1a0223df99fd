use Rattle.std.proofs.Common.{◌≡◌, ◌++◌, map, take}
use Rattle.base.specs.Literal.{variable}
use Rattle.aigerlists.proofs.numbers.Numbers.push_inputs.Given as goal

abbrev pub invariant-loop-lit : goal.invariant-loop-lit
invariant-loop-lit l = l.self ≡ l.fn.self ++ map variable (take l.lit-index l.inputs)
