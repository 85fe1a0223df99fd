use Rattle.std.proofs.Common.{List, subst}
use Rattle.pieces.specs.declared.node.Node.{Node}
use Rattle.pieces.specs.Cuts.{IsBehind}
use Rattle.pieces.proofs.CutLemmas.{behind_more}
use Rattle.pieces.proofs.cuts.skip.Goals as goal

pub loop-first-preserved : goal.loop-first-preserved
loop-first-preserved c =
    behind_more c.args.nodes.now c.args.low c.in-Some.first.now c.in-Some.more.now c.loop-first.inside
    (subst (λ (l : List Node). IsBehind c.args.nodes.now c.args.low l c.loop-first.inside) c.in-Some.ensures.cases.0 c.loop-first.invariant) c.if-inside-first.false
