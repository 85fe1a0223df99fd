use Rattle.std.proofs.Common.{ℕ, ◌+◌, List, sym, ap, ap₂, subst, ◌∙◌, arith}
use Rattle.base.specs.Operator.{concat_value}
use Rattle.pieces.specs.declared.node.Node.{Node}
use Rattle.pieces.specs.Nodes.{word_of, bits_in, AreNodes, MakesWord}
use Rattle.pieces.specs.Moves.{high_bits}
use Rattle.pieces.proofs.ListLemmas.{nodes_kept, ok_with}
use Rattle.pieces.proofs.MoveLemmas.{bits_of_low, above_low}
use Rattle.pieces.proofs.moves.moved_above.Goals as goal

pub stacked-requires-clause-low : goal.stacked-requires-clause-low
stacked-requires-clause-low c = nodes_kept c.args.maker.now c.high_part.new.maker c.args.low.now c.in_ok-high.ensures.extends c.requires.low

pub stacked-requires-clause-high : goal.stacked-requires-clause-high
stacked-requires-clause-high c = subst (AreNodes c.high_part.new.maker) (sym c.deref.ensures.value) c.in_ok-high.ensures.word.nodes

pub stacked-requires-clause-wide : goal.stacked-requires-clause-wide
stacked-requires-clause-wide c = ap₂ (λ (i j : ℕ). i + j) (ap bits_in c.deref.ensures.value ∙ c.in_ok-high.ensures.word.wide) c.requires.low_wide ∙ bits_of_low c.args.by c.args.width c.args.amount (omega (arith, c.requires.less))

pub stacked-requires-clause-some : goal.stacked-requires-clause-some
stacked-requires-clause-some c = omega (arith, c.requires.less)

pub returns-clause-word : goal.returns-clause-word
returns-clause-word c = ok_with _ _ c.stacked.result
    (λ rs h. above_low c.args.by c.high_part.new.maker c.stacked.new.maker c.args.a.now c.args.low.now c.in_ok-high.high.items rs.items c.args.width c.args.amount (high_bits c.args.by c.args.width c.args.amount) c.stacked.ensures.extends c.in_ok-high.ensures.word
    (subst (λ (l : List Node). MakesWord c.stacked.new.maker c.args.width (λ g. concat_value (word_of g l) (bits_in c.args.low.now) (word_of g c.args.low.now)) rs.items) c.deref.ensures.value h)) c.stacked.ensures.word
