use Rattle.std.proofs.Common.{if◌then◌else◌}
use Rattle.base.specs.Literal.{literal_value}
use Rattle.gates.proofs.BitListLemmas.{IsRow}
use Rattle.gates.proofs.choices.choose.Given as goal

abbrev pub invariant-loop-i : goal.invariant-loop-i
invariant-loop-i g l = IsRow (g.G.Gates.made l.fn.g) (g.G.Gates.made l.g) 3 l.i (λ v x y. if literal_value v l.c then x else y) l.t l.e l.bits.items
