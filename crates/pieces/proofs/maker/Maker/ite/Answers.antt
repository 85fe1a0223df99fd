use Rattle.std.proofs.Common.{refl}
use Rattle.pieces.proofs.NodeLemmas.{node_kept, sound_ite, made_ite}
use Rattle.pieces.proofs.maker.Maker.ite.Goals as goal

pub put-requires : goal.put-requires
put-requires c = record { sound = sound_ite c.sort.new.self c.in_ok-sort.sort c.args.condition c.args.first c.args.second c.requires.bit c.requires.same c.in_ok-sort.ensures.sort (node_kept c.args.self.now c.sort.new.self c.args.condition c.in_ok-sort.ensures.extends c.requires.condition) (node_kept c.args.self.now c.sort.new.self c.args.first c.in_ok-sort.ensures.extends c.requires.first) (node_kept c.args.self.now c.sort.new.self c.args.second c.in_ok-sort.ensures.extends c.requires.second); plain = refl }

pub returns-clause-node : goal.returns-clause-node
returns-clause-node c = made_ite c.sort.new.self c.put.new.self c.in_ok-sort.sort c.in_ok-id.id c.args.condition c.args.first c.args.second c.in_ok-id.ensures.line.0 c.in_ok-id.ensures.line.1 c.in_ok-sort.ensures.sort
