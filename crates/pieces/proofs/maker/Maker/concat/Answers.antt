use Rattle.std.proofs.Common.{◌+◌, refl}
use Rattle.pieces.proofs.NodeLemmas.{node_kept, sound_concat, made_concat}
use Rattle.pieces.proofs.maker.Maker.concat.Goals as goal

pub put-requires : goal.put-requires
put-requires c = record { sound = sound_concat c.sort.new.self c.in_ok-sort.sort (c.args.high.width + c.args.low.width) c.args.high c.args.low refl c.in_ok-sort.ensures.sort (node_kept c.args.self.now c.sort.new.self c.args.high c.in_ok-sort.ensures.extends c.requires.high) (node_kept c.args.self.now c.sort.new.self c.args.low c.in_ok-sort.ensures.extends c.requires.low); plain = refl }

pub returns-clause-node : goal.returns-clause-node
returns-clause-node c = made_concat c.sort.new.self c.put.new.self c.in_ok-sort.sort c.in_ok-id.id c.args.high c.args.low c.in_ok-id.ensures.line.0 c.in_ok-id.ensures.line.1 c.in_ok-sort.ensures.sort (node_kept c.args.self.now c.sort.new.self c.args.low c.in_ok-sort.ensures.extends c.requires.low)
