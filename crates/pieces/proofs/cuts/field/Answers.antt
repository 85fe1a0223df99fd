use Rattle.std.proofs.Common.{arith}
use Rattle.pieces.proofs.ListLemmas.{behind_nodes, behind_bits, ok_with}
use Rattle.pieces.proofs.CutLemmas.{field_behind}
use Rattle.pieces.proofs.cuts.field.Goals as goal

pub bits-requires-clause-nodes : goal.bits-requires-clause-nodes
bits-requires-clause-nodes c = behind_nodes c.args.maker.now c.args.nodes.now c.args.low c.skip-inside.result.0.now c.skip-inside.result.1 c.requires.nodes c.skip-inside.ensures.behind

pub bits-requires-clause-within : goal.bits-requires-clause-within
bits-requires-clause-within c = omega (arith, behind_bits c.args.nodes.now c.args.low c.skip-inside.result.0.now c.skip-inside.result.1 c.skip-inside.ensures.behind, c.requires.within)

pub returns-clause-node : goal.returns-clause-node
returns-clause-node c = ok_with _ _ c.bits.result
    (λ r h. field_behind c.args.maker.now c.bits.new.maker c.args.nodes.now c.skip-inside.result.0.now c.args.low c.skip-inside.result.1 c.args.width r c.requires.nodes c.bits.ensures.extends c.skip-inside.ensures.behind h) c.bits.ensures.node
