use Rattle.std.proofs.Common.{refl}
use Rattle.pieces.proofs.NodeLemmas.{sound_zero, made_zero}
use Rattle.pieces.proofs.maker.Maker.zero.Goals as goal

pub put-requires : goal.put-requires
put-requires c = record { sound = sound_zero c.sort.new.self c.in_ok-sort.sort c.args.width c.in_ok-sort.ensures.sort; plain = refl }

pub returns-clause-node : goal.returns-clause-node
returns-clause-node c = made_zero c.sort.new.self c.put.new.self c.in_ok-sort.sort c.in_ok-id.id c.args.width c.in_ok-id.ensures.line.0 c.in_ok-id.ensures.line.1 c.in_ok-sort.ensures.sort
