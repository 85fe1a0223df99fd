use Rattle.std.proofs.Common.{◌/◌, ◌%◌, ◌^◌, List, Vec, Global, sym, ap, subst, ◌∙◌, arith}
use Rattle.base.specs.Operator.{concat_value}
use Rattle.pieces.specs.declared.node.Node.{Node}
use Rattle.pieces.specs.Nodes.{word_of, bits_in, AreNodes, MakesWord}
use Rattle.pieces.proofs.ListLemmas.{bits_append, ok_with}
use Rattle.pieces.proofs.JoinLemmas.{nodes_join, stacked_word}
use Rattle.pieces.proofs.joins.stacked.Goals as goal

pub cut-requires-clause-nodes : goal.cut-requires-clause-nodes
cut-requires-clause-nodes c = subst (AreNodes c.args.maker.now) (sym (c.deref.ensures.value ∙ c.in_ok-all.ensures.nodes)) (nodes_join c.args.maker.now c.args.low.now c.args.high.now c.requires.low c.requires.high)

pub cut-requires-clause-within : goal.cut-requires-clause-within
cut-requires-clause-within c = omega (arith, ap bits_in (c.deref.ensures.value ∙ c.in_ok-all.ensures.nodes), bits_append c.args.low.now c.args.high.now, c.requires.wide)

pub returns-clause-word : goal.returns-clause-word
returns-clause-word c = ok_with (λ (rs : Vec Node Global). MakesWord c.cut.new.maker c.args.width (λ g. word_of g c.deref.result.now / 2 ^ 0 % 2 ^ c.args.width) rs.items) (λ (rs : Vec Node Global). MakesWord c.cut.new.maker c.args.width (λ g. concat_value (word_of g c.args.high.now) (bits_in c.args.low.now) (word_of g c.args.low.now)) rs.items) c.cut.result
    (λ rs h. stacked_word c.args.maker.now c.cut.new.maker c.args.low.now c.args.high.now rs.items c.args.width c.requires.low c.requires.high c.requires.wide c.cut.ensures.extends
    (subst (λ (l : List Node). MakesWord c.cut.new.maker c.args.width (λ g. word_of g l / 2 ^ 0 % 2 ^ c.args.width) rs.items) (c.deref.ensures.value ∙ c.in_ok-all.ensures.nodes) h)) c.cut.ensures.word
