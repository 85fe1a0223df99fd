use Rattle.pieces.proofs.NodeLemmas.{sound_constraint}
use Rattle.pieces.proofs.maker.Maker.constraint.Goals as goal

pub tell-requires : goal.tell-requires
tell-requires c = record { sound = sound_constraint c.args.self.now c.args.a c.requires.bit c.requires.a }
