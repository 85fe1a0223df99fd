use Rattle.std.proofs.Common.{◌*◌, take}
use Rattle.gates.specs.Connect.{connected_bits, connective_bound}
use Rattle.gates.specs.Made.{MakesLiteral, word_value}
use Rattle.gates.proofs.bitwise.connect_bits.Given as goal

abbrev pub invariant-loop-lit : goal.invariant-loop-lit
invariant-loop-lit g l = MakesLiteral (g.G.Gates.made l.fn.g) (g.G.Gates.made l.g) (connective_bound l.by * l.lit-index) (λ v. connected_bits l.by l.lit-index (word_value v (take l.lit-index l.a))) l.all
