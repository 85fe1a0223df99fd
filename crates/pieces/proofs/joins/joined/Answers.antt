use Rattle.std.proofs.Common.{List, ◌++◌, ap, ◌∙◌}
use Rattle.pieces.specs.declared.node.Node.{Node}
use Rattle.pieces.proofs.joins.joined.Goals as goal

pub returns-clause-nodes : goal.returns-clause-nodes
returns-clause-nodes c = c.in_ok-keep_all-2.ensures.ok ∙ ap (λ (l : List Node). l ++ c.args.high.now) (c.in_ok-keep_all.ensures.ok ∙ ap (λ (l : List Node). l ++ c.args.low.now) c.new-out.ensures.items)
