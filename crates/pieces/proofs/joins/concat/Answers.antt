use Rattle.std.proofs.Common.{ℕ, ◌+◌, ◌≤◌, Vec, Global, sym, ap₂, subst, arith}
use Rattle.base.specs.Operator.{concat_value}
use Rattle.pieces.specs.declared.node.Node.{Node}
use Rattle.pieces.specs.Nodes.{word_of, bits_in, MakesWord}
use Rattle.pieces.proofs.ListLemmas.{ok_with}
use Rattle.pieces.proofs.joins.concat.Goals as goal

pub overflow_add-width : goal.overflow_add-width
overflow_add-width c = let high = c.bits_of.ensures in let low = c.bits_of-2.ensures in omega (arith, high, low, c.requires.few)

pub stacked-requires-clause-wide : goal.stacked-requires-clause-wide
stacked-requires-clause-wide c = ap₂ (λ (i j : ℕ). i + j) (sym c.bits_of.ensures) (sym c.bits_of-2.ensures)

pub stacked-requires-clause-some : goal.stacked-requires-clause-some
stacked-requires-clause-some c = let some : 1 ≤ bits_in c.args.high.now = c.requires.high.some in omega (arith, some, c.bits_of.ensures)

pub stacked-requires-clause-few : goal.stacked-requires-clause-few
stacked-requires-clause-few c = omega (arith, c.bits_of.ensures, c.bits_of-2.ensures, c.requires.few)

pub returns-clause-word : goal.returns-clause-word
returns-clause-word c = ok_with (λ (rs : Vec Node Global). MakesWord c.stacked.new.maker (c.bits_of.result + c.bits_of-2.result) (λ g. concat_value (word_of g c.args.high.now) (bits_in c.args.low.now) (word_of g c.args.low.now)) rs.items) (λ (rs : Vec Node Global). MakesWord c.stacked.new.maker (bits_in c.args.high.now + bits_in c.args.low.now) (λ g. concat_value (word_of g c.args.high.now) (bits_in c.args.low.now) (word_of g c.args.low.now)) rs.items) c.stacked.result
    (λ rs h. subst (λ (n : ℕ). MakesWord c.stacked.new.maker n (λ g. concat_value (word_of g c.args.high.now) (bits_in c.args.low.now) (word_of g c.args.low.now)) rs.items) (ap₂ (λ (i j : ℕ). i + j) c.bits_of.ensures c.bits_of-2.ensures) h) c.stacked.ensures.word
