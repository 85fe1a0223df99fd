use Rattle.std.proofs.Common.{◌≡◌, map, take}
use Rattle.base.specs.Literal.{negation}
use Rattle.gates.proofs.bit_lists.negation.Given as goal

abbrev pub invariant-loop-lit : goal.invariant-loop-lit
invariant-loop-lit l = l.bits.items ≡ map negation (take l.lit-index l.a)
