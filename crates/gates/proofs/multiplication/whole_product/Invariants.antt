use Rattle.std.proofs.Common.{◌*◌, ◌%◌, ◌^◌, nat_le, length, take}
use Rattle.gates.specs.Made.{MakesLiteral, MakesWord, word_value}
use Rattle.gates.proofs.multiplication.whole_product.Given as goal

abbrev pub invariant-loop-place : goal.invariant-loop-place
invariant-loop-place g l =
    let n = length l.a in
    record {
      bits : MakesWord (g.G.Gates.made l.fn.g) (g.G.Gates.made l.g) (12 * (n * l.place)) n (λ v. word_value v l.a * word_value v (take l.place l.b) % 2 ^ n) l.product.bits.items;
      lost : MakesLiteral (g.G.Gates.made l.fn.g) (g.G.Gates.made l.g) (12 * (n * l.place)) (λ v. nat_le (2 ^ n) (word_value v l.a * word_value v (take l.place l.b))) l.product.lost;
    }
