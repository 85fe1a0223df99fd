use Rattle.std.proofs.Common.{refl}
use Rattle.tidy.specs.Tidied.{tidied}
use Rattle.tidy.proofs.laws.worked_words.Goals as goal

pub returns : goal.returns
unfolding tidied
returns c = record { blank = refl; comment = refl; windows = refl; empty = refl; unknown = refl; progress = refl; unended = refl; strict = refl }
