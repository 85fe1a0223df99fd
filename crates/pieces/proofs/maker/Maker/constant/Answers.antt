use Rattle.std.proofs.Common.{refl}
use Rattle.pieces.proofs.NodeLemmas.{sound_constant, made_constant, constant_put}
use Rattle.pieces.proofs.maker.Maker.constant.Goals as goal

pub put-requires : goal.put-requires
put-requires c = record { sound = sound_constant c.sort.new.self c.in_ok-sort.sort c.args.width c.args.value c.requires.fits c.in_ok-sort.ensures.sort; plain = refl }

pub returns-clause-node : goal.returns-clause-node
returns-clause-node c = made_constant c.sort.new.self c.put.new.self c.in_ok-sort.sort c.in_ok-id.id c.args.width c.args.width c.args.value c.in_ok-id.ensures.line.0 c.in_ok-id.ensures.line.1 c.in_ok-sort.ensures.sort

pub returns-clause-constant : goal.returns-clause-constant
returns-clause-constant c = constant_put c.sort.new.self c.put.new.self c.in_ok-sort.sort c.in_ok-id.id c.args.width c.args.width c.args.value c.in_ok-id.ensures.line.0 c.in_ok-id.ensures.line.1 c.in_ok-sort.ensures.sort
