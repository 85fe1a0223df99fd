use Rattle.std.proofs.Common.{ℕ, ◌^◌, ◌<◌, List, sym, ap, subst, ◌∙◌, arith}
use Rattle.base.specs.Operator.{concat_value}
use Rattle.pieces.specs.declared.node.Node.{Node}
use Rattle.pieces.specs.Nodes.{word_of, bits_in, AreNodes, MakesWord}
use Rattle.pieces.specs.Moves.{moved_value, high_value}
use Rattle.pieces.proofs.ListLemmas.{nodes_kept, ok_with}
use Rattle.pieces.proofs.MoveLemmas.{moved_made}
use Rattle.pieces.proofs.moves.moved.Goals as goal

pub low_part-requires-clause-few : goal.low_part-requires-clause-few
low_part-requires-clause-few c = let few : bits_in c.args.a.now < 2 ^ 63 = c.requires.a.few in omega (arith, few, c.bits_of-width.ensures)

pub low_part-requires-clause-less : goal.low_part-requires-clause-less
low_part-requires-clause-less c = omega (arith, c.requires.less, c.bits_of-width.ensures)

pub moved_above-requires-clause-a : goal.moved_above-requires-clause-a
moved_above-requires-clause-a c = nodes_kept c.args.maker.now c.low_part.new.maker c.args.a.now c.in_ok-low.ensures.extends c.requires.a.nodes

pub moved_above-requires-clause-low : goal.moved_above-requires-clause-low
moved_above-requires-clause-low c = subst (AreNodes c.low_part.new.maker) (sym c.deref.ensures.value) c.in_ok-low.ensures.word.nodes

pub moved_above-requires-clause-low_wide : goal.moved_above-requires-clause-low_wide
moved_above-requires-clause-low_wide c = ap bits_in c.deref.ensures.value ∙ c.in_ok-low.ensures.word.wide

pub returns-clause-word : goal.returns-clause-word
returns-clause-word c = ok_with _ _ c.moved_above.result
    (λ rs h. subst (λ (n : ℕ). MakesWord c.moved_above.new.maker n (λ g. moved_value c.args.by n (word_of g c.args.a.now) c.args.amount) rs.items) c.bits_of-width.ensures
    (moved_made c.args.by c.args.maker.now c.low_part.new.maker c.moved_above.new.maker c.args.a.now c.in_ok-low.low.items rs.items c.bits_of-width.result c.args.amount c.requires.a.nodes (sym c.bits_of-width.ensures) (omega (arith, c.requires.less, c.bits_of-width.ensures)) c.in_ok-low.ensures.extends c.moved_above.ensures.extends c.in_ok-low.ensures.word
    (subst (λ (l : List Node). MakesWord c.moved_above.new.maker c.bits_of-width.result (λ g. concat_value (high_value c.args.by c.bits_of-width.result (word_of g c.args.a.now) c.args.amount) (bits_in l) (word_of g l)) rs.items) c.deref.ensures.value h))) c.moved_above.ensures.word
