use Rattle.std.proofs.Common.{ℕ, ◌+◌, ◌-◌, ◌≤◌, List, sym, ap, subst, arith, ◌/◌, ◌%◌, ◌^◌}
use Rattle.base.specs.Operator.{concat_value}
use Rattle.pieces.specs.declared.node.Node.{Node}
use Rattle.pieces.specs.Nodes.{word_of, bits_in, AreNodes, Makes, MakesWord}
use Rattle.pieces.proofs.NodeLemmas.{extends_twice}
use Rattle.pieces.proofs.ListLemmas.{nodes_kept, ok_with}
use Rattle.pieces.proofs.JoinLemmas.{signed_word}
use Rattle.pieces.proofs.joins.sext.Goals as goal

pub overflow_sub-own : goal.overflow_sub-own
overflow_sub-own c = omega (arith, c.bits_of-own.ensures, c.requires.a.some)

pub field-requires-clause-within : goal.field-requires-clause-within
field-requires-clause-within c = omega (arith, c.bits_of-own.ensures, c.requires.a.some)

pub overflow_add-own : goal.overflow_add-own
overflow_add-own c = omega (arith, c.bits_of-own.ensures, c.requires.few)

pub stacked-requires-clause-low : goal.stacked-requires-clause-low
stacked-requires-clause-low c = nodes_kept c.args.maker.now c.fill.new.maker c.args.a.now (extends_twice c.args.maker.now c.field.new.maker c.fill.new.maker c.in_ok-sign.ensures.extends c.in_ok-above.ensures.extends) c.requires.a.nodes

pub stacked-requires-clause-high : goal.stacked-requires-clause-high
stacked-requires-clause-high c = subst (AreNodes c.fill.new.maker) (sym c.deref.ensures.value) c.in_ok-above.ensures.word.nodes

pub stacked-requires-clause-wide : goal.stacked-requires-clause-wide
stacked-requires-clause-wide c = omega (arith, ap bits_in c.deref.ensures.value, c.in_ok-above.ensures.word.wide, c.bits_of-own.ensures)

pub stacked-requires-clause-some : goal.stacked-requires-clause-some
stacked-requires-clause-some c = let some : 1 ≤ bits_in c.args.a.now = c.requires.a.some in omega (arith, some, c.bits_of-own.ensures)

pub stacked-requires-clause-few : goal.stacked-requires-clause-few
stacked-requires-clause-few c = omega (arith, c.bits_of-own.ensures, c.requires.few)

pub returns-clause-word : goal.returns-clause-word
returns-clause-word c = let bit = subst (λ (n : ℕ). Makes c.field.new.maker 1 (λ g. word_of g c.args.a.now / 2 ^ (n - 1) % 2 ^ 1) c.in_ok-sign.sign) c.bits_of-own.ensures c.in_ok-sign.ensures.node in
    ok_with _ _ c.stacked.result
    (λ rs h. signed_word c.args.maker.now c.field.new.maker c.fill.new.maker c.stacked.new.maker c.args.a.now c.in_ok-above.above.items rs.items (c.bits_of-own.result + c.args.by) (bits_in c.args.a.now + c.args.by) c.args.by c.in_ok-sign.sign
    c.requires.a.nodes c.requires.a.some (ap (λ (n : ℕ). n + c.args.by) c.bits_of-own.ensures) (omega arith) c.in_ok-sign.ensures.extends c.in_ok-above.ensures.extends c.stacked.ensures.extends bit c.in_ok-above.ensures.word
    (subst (λ (l : List Node). MakesWord c.stacked.new.maker (c.bits_of-own.result + c.args.by) (λ g. concat_value (word_of g l) (bits_in c.args.a.now) (word_of g c.args.a.now)) rs.items) c.deref.ensures.value h)) c.stacked.ensures.word
