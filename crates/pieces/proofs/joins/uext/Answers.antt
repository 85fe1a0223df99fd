use Rattle.std.proofs.Common.{ℕ, ◌+◌, ◌≤◌, List, Vec, Global, sym, ap, subst, arith}
use Rattle.base.specs.Operator.{concat_value}
use Rattle.pieces.specs.declared.node.Node.{Node}
use Rattle.pieces.specs.Nodes.{word_of, bits_in, AreNodes, MakesWord}
use Rattle.base.specs.Operator.{uext_value}
use Rattle.pieces.proofs.ListLemmas.{nodes_kept, ok_with}
use Rattle.pieces.proofs.JoinLemmas.{wider_word}
use Rattle.pieces.proofs.joins.uext.Goals as goal

pub overflow_add-width : goal.overflow_add-width
overflow_add-width c = omega (arith, c.bits_of.ensures, c.requires.few)

pub stacked-requires-clause-low : goal.stacked-requires-clause-low
stacked-requires-clause-low c = nodes_kept c.args.maker.now c.fill.new.maker c.args.a.now c.in_ok-above.ensures.extends c.requires.a.nodes

pub stacked-requires-clause-high : goal.stacked-requires-clause-high
stacked-requires-clause-high c = subst (AreNodes c.fill.new.maker) (sym c.deref.ensures.value) c.in_ok-above.ensures.word.nodes

pub stacked-requires-clause-wide : goal.stacked-requires-clause-wide
stacked-requires-clause-wide c = omega (arith, ap bits_in c.deref.ensures.value, c.in_ok-above.ensures.word.wide, c.bits_of.ensures)

pub stacked-requires-clause-some : goal.stacked-requires-clause-some
stacked-requires-clause-some c = let some : 1 ≤ bits_in c.args.a.now = c.requires.a.some in omega (arith, some, c.bits_of.ensures)

pub stacked-requires-clause-few : goal.stacked-requires-clause-few
stacked-requires-clause-few c = omega (arith, c.bits_of.ensures, c.requires.few)

pub returns-clause-word : goal.returns-clause-word
returns-clause-word c = ok_with (λ (rs : Vec Node Global). MakesWord c.stacked.new.maker (c.bits_of.result + c.args.by) (λ g. concat_value (word_of g c.deref.result.now) (bits_in c.args.a.now) (word_of g c.args.a.now)) rs.items) (λ (rs : Vec Node Global). MakesWord c.stacked.new.maker (bits_in c.args.a.now + c.args.by) (λ g. uext_value (word_of g c.args.a.now)) rs.items) c.stacked.result
    (λ rs h. wider_word c.fill.new.maker c.stacked.new.maker c.args.a.now c.in_ok-above.above.items rs.items (c.bits_of.result + c.args.by) (bits_in c.args.a.now + c.args.by) c.args.by (ap (λ (n : ℕ). n + c.args.by) c.bits_of.ensures) c.stacked.ensures.extends c.in_ok-above.ensures.word
    (subst (λ (l : List Node). MakesWord c.stacked.new.maker (c.bits_of.result + c.args.by) (λ g. concat_value (word_of g l) (bits_in c.args.a.now) (word_of g c.args.a.now)) rs.items) c.deref.ensures.value h)) c.stacked.ensures.word
