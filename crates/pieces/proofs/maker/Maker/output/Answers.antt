use Rattle.pieces.proofs.NodeLemmas.{sound_output}
use Rattle.pieces.proofs.maker.Maker.output.Goals as goal

pub tell-requires : goal.tell-requires
tell-requires c = record { sound = sound_output c.args.self.now c.args.a c.requires.a }
