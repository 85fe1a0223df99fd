use Rattle.std.proofs.Common.{◌-◌, arith, refl}
use Rattle.pieces.proofs.NodeLemmas.{node_kept, sound_uext, made_uext}
use Rattle.pieces.proofs.maker.Maker.uext.Goals as goal

pub put-requires : goal.put-requires
put-requires c = record { sound = sound_uext c.sort.new.self c.in_ok-sort.sort (c.args.width - c.args.a.width) c.args.width c.args.a (omega (arith, c.requires.least)) c.in_ok-sort.ensures.sort (node_kept c.args.self.now c.sort.new.self c.args.a c.in_ok-sort.ensures.extends c.requires.a); plain = refl }

pub returns-clause-node : goal.returns-clause-node
returns-clause-node c = made_uext c.sort.new.self c.put.new.self c.in_ok-sort.sort c.in_ok-id.id (c.args.width - c.args.a.width) c.args.width c.args.a c.in_ok-id.ensures.line.0 c.in_ok-id.ensures.line.1 c.in_ok-sort.ensures.sort
