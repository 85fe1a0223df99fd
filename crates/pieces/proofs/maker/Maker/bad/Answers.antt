use Rattle.pieces.proofs.NodeLemmas.{sound_bad}
use Rattle.pieces.proofs.maker.Maker.bad.Goals as goal

pub tell-requires : goal.tell-requires
tell-requires c = record { sound = sound_bad c.args.self.now c.args.a c.requires.bit c.requires.a }
