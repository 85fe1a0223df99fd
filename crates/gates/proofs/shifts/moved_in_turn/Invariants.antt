use Rattle.std.proofs.Common.{◌*◌, length, take}
use Rattle.base.specs.Operator.{binary_value}
use Rattle.gates.specs.Made.{MakesWord, word_value}
use Rattle.gates.proofs.shifts.moved_in_turn.Given as goal

abbrev pub invariant-loop-place : goal.invariant-loop-place
invariant-loop-place g l =
    let n = length l.a in
    MakesWord (g.G.Gates.made l.fn.g) (g.G.Gates.made l.g) (3 * (n * l.place)) n (λ v. binary_value l.op n (word_value v l.a) (word_value v (take l.place l.amount))) l.bits.items
