use Rattle.std.proofs.Common.{refl}
use Rattle.pieces.proofs.NodeLemmas.{node_kept, sound_binary, made_binary}
use Rattle.pieces.proofs.maker.Maker.binary.Goals as goal

pub put-requires : goal.put-requires
put-requires c = record { sound = sound_binary c.sort.new.self c.args.operator c.in_ok-sort.sort c.width-width.result c.args.a c.args.b c.requires.bits c.requires.same c.width-width.ensures c.in_ok-sort.ensures.sort (node_kept c.args.self.now c.sort.new.self c.args.a c.in_ok-sort.ensures.extends c.requires.a) (node_kept c.args.self.now c.sort.new.self c.args.b c.in_ok-sort.ensures.extends c.requires.b); plain = refl }

pub returns-clause-node : goal.returns-clause-node
returns-clause-node c = made_binary c.sort.new.self c.put.new.self c.args.operator c.in_ok-sort.sort c.in_ok-id.id c.width-width.result c.args.a c.args.b c.in_ok-id.ensures.line.0 c.in_ok-id.ensures.line.1 c.width-width.ensures c.in_ok-sort.ensures.sort (node_kept c.args.self.now c.sort.new.self c.args.a c.in_ok-sort.ensures.extends c.requires.a)
