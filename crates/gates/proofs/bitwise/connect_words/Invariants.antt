use Rattle.gates.specs.Connect.{connected, connective_bound}
use Rattle.gates.proofs.BitListLemmas.{IsRow}
use Rattle.gates.proofs.bitwise.connect_words.Given as goal

abbrev pub invariant-loop-i : goal.invariant-loop-i
invariant-loop-i g l = IsRow (g.G.Gates.made l.fn.g) (g.G.Gates.made l.g) (connective_bound l.by) l.i (λ v. connected l.by) l.a l.b l.bits.items
