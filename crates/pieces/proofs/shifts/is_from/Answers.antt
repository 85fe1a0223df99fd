use Rattle.std.proofs.Common.{◌^◌, ◌<◌, ◌≤◌, List, sym, subst, arith}
use Rattle.base.specs.declared.operators.Unary.TheVariants as unary
use Rattle.base.specs.Operator.{unary_value}
use Rattle.pieces.specs.declared.node.Node.{Node}
use Rattle.pieces.specs.Nodes.{word_of, bits_in, Makes}
use Rattle.pieces.specs.Cuts.{IsWord}
use Rattle.pieces.proofs.ListLemmas.{ok_with}
use Rattle.pieces.proofs.MoveLemmas.{some_from}
use Rattle.pieces.proofs.shifts.is_from.Goals as goal

pub cut-requires-clause-some : goal.cut-requires-clause-some
cut-requires-clause-some c = omega (arith, c.requires.less)

pub cut-requires-clause-within : goal.cut-requires-clause-within
cut-requires-clause-within c = omega (arith, c.requires.less, c.requires.wide)

pub cut-requires-clause-few : goal.cut-requires-clause-few
cut-requires-clause-few c = omega (arith, c.requires.less, c.requires.few)

pub redor-requires : goal.redor-requires
redor-requires c = let some : 1 ≤ bits_in c.in_ok-high.high.items = omega (arith, c.requires.less, c.in_ok-high.ensures.word.wide) in
    let few : bits_in c.in_ok-high.high.items < 2 ^ 63 = omega (arith, c.requires.few, c.in_ok-high.ensures.word.wide) in
    record { a = subst (IsWord c.cut.new.maker) (sym c.deref.ensures.value) (record { nodes = c.in_ok-high.ensures.word.nodes; cut = c.in_ok-high.ensures.cut; some = some; few = few }) }

pub returns-clause-node : goal.returns-clause-node
returns-clause-node c = ok_with _ _ c.redor.result
    (λ r h. some_from c.args.maker.now c.cut.new.maker c.redor.new.maker c.args.b.now c.in_ok-high.high.items c.args.low c.args.width 0 r c.requires.b c.requires.wide (omega (arith, c.requires.less)) c.in_ok-high.ensures.extends c.redor.ensures.extends c.in_ok-high.ensures.word
    (subst (λ (l : List Node). Makes c.redor.new.maker 1 (λ g. unary_value unary.Redor 0 (word_of g l)) r) c.deref.ensures.value h)) c.redor.ensures.node
