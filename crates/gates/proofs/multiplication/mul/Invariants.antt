use Rattle.std.proofs.Common.{◌*◌, ◌%◌, ◌^◌, length, take}
use Rattle.gates.specs.Made.{MakesWord, word_value}
use Rattle.gates.proofs.multiplication.mul.Given as goal

abbrev pub invariant-loop-place : goal.invariant-loop-place
invariant-loop-place g l =
    let n = length l.a in
    MakesWord (g.G.Gates.made l.fn.g) (g.G.Gates.made l.g) (10 * (n * l.place)) n (λ v. word_value v l.a * word_value v (take l.place l.b) % 2 ^ n) l.product.items
