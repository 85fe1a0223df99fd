use Rattle.std.proofs.Common.{refl}
use Rattle.pieces.proofs.NodeLemmas.{sound_one, made_one}
use Rattle.pieces.proofs.maker.Maker.one.Goals as goal

pub put-requires : goal.put-requires
put-requires c = record { sound = sound_one c.sort.new.self c.in_ok-sort.sort c.args.width c.in_ok-sort.ensures.sort; plain = refl }

pub returns-clause-node : goal.returns-clause-node
returns-clause-node c = made_one c.sort.new.self c.put.new.self c.in_ok-sort.sort c.in_ok-id.id c.args.width c.in_ok-id.ensures.line.0 c.in_ok-id.ensures.line.1 c.in_ok-sort.ensures.sort
