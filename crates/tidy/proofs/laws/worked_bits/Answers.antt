use Rattle.std.proofs.Common.{refl}
use Rattle.tidy.specs.Tidied.{tidied}
use Rattle.tidy.proofs.laws.worked_bits.Goals as goal

pub returns : goal.returns
unfolding tidied
returns c = record { blank = refl; windows = refl; empty = refl; frames = refl; unknown = refl; progress = refl; comment = refl; strict = refl }
