use Rattle.std.proofs.Common.{◌^◌, ◌<◌, List, refl, ap, subst, ◌∙◌, arith, ◌-◌}
use Rattle.base.specs.Operator.{ite_value}
use Rattle.pieces.specs.declared.node.Node.{Node}
use Rattle.pieces.specs.Nodes.{word_of, bits_in, MakesWord}
use Rattle.pieces.specs.Moves.{entering_value}
use Rattle.pieces.proofs.NodeLemmas.{extends_same, extends_twice, node_kept}
use Rattle.pieces.proofs.ListLemmas.{word_kept, nodes_kept, ok_with}
use Rattle.pieces.proofs.SumLemmas.{word_made}
use Rattle.pieces.proofs.MoveLemmas.{shifted_far}
use Rattle.pieces.proofs.shifts.far_shifted.Goals as goal

pub is_from-requires-clause-few : goal.is_from-requires-clause-few
is_from-requires-clause-few c = let few : bits_in c.args.b.now < 2 ^ 63 = c.requires.b.few in omega (arith, few, c.requires.wide)

pub barrel-requires-clause-a : goal.barrel-requires-clause-a
barrel-requires-clause-a c = word_kept c.args.maker.now c.is_from.new.maker c.args.a.now c.in_ok-far.ensures.extends c.requires.a

pub barrel-requires-clause-b : goal.barrel-requires-clause-b
barrel-requires-clause-b c = nodes_kept c.args.maker.now c.is_from.new.maker c.args.b.now c.in_ok-far.ensures.extends c.requires.b.nodes

pub barrel-requires-clause-within : goal.barrel-requires-clause-within
barrel-requires-clause-within c = omega (arith, c.requires.less, c.requires.wide)

pub unless_far-requires-clause-far : goal.unless_far-requires-clause-far
unless_far-requires-clause-far c = node_kept c.is_from.new.maker c.barrel.new.maker c.in_ok-far.far c.in_ok-near.ensures.extends c.in_ok-far.ensures.node.node

pub unless_far-requires-clause-a : goal.unless_far-requires-clause-a
unless_far-requires-clause-a c = word_kept c.args.maker.now c.barrel.new.maker c.args.a.now (extends_twice c.args.maker.now c.is_from.new.maker c.barrel.new.maker c.in_ok-far.ensures.extends c.in_ok-near.ensures.extends) c.requires.a

pub unless_far-requires-clause-near : goal.unless_far-requires-clause-near
unless_far-requires-clause-near c = word_made c.barrel.new.maker c.barrel.new.maker c.args.a.now c.in_ok-near.near.items c.deref.result.now (extends_same c.barrel.new.maker) c.deref.ensures.value c.in_ok-near.ensures.word.nodes c.in_ok-near.ensures.word.wide c.in_ok-near.ensures.cut c.requires.a.some c.requires.a.few

pub unless_far-requires-clause-same : goal.unless_far-requires-clause-same
unless_far-requires-clause-same c = ap bits_in c.deref.ensures.value ∙ c.in_ok-near.ensures.word.wide

pub returns-clause-word : goal.returns-clause-word
returns-clause-word c =
    let n = bits_in c.args.a.now in
    ok_with _ _ c.unless_far.result
    (λ rs h. shifted_far c.args.by c.args.maker.now c.is_from.new.maker c.barrel.new.maker c.unless_far.new.maker c.args.a.now c.args.b.now c.in_ok-near.near.items rs.items n (c.args.many - c.args.count) c.args.count c.in_ok-far.far c.requires.by c.requires.a.nodes refl c.requires.a.some c.requires.enough
    c.in_ok-far.ensures.extends c.in_ok-near.ensures.extends c.unless_far.ensures.extends c.in_ok-far.ensures.node c.in_ok-near.ensures.word
    (subst (λ (l : List Node). MakesWord c.unless_far.new.maker n (λ g. ite_value (g c.in_ok-far.far.id) (entering_value c.args.by n (word_of g c.args.a.now) n) (word_of g l)) rs.items) c.deref.ensures.value h)) c.unless_far.ensures.word
