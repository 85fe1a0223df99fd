use Rattle.pieces.proofs.CutLemmas.{part_whole}
use Rattle.pieces.proofs.cuts.part.Goals as goal

pub returns-then-width-node-clause-node : goal.returns-then-width-node-clause-node
returns-then-width-node-clause-node c = part_whole c.args.maker.now c.args.node c.args.low c.args.width c.requires.node c.requires.within c.if-width-node.true
