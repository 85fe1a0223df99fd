use Rattle.drup.proofs.HintSoundLemmas.{hinted_sound}
use Rattle.drup.proofs.laws.hinted_is_unsatisfiable.Goals as goal

pub returns : goal.returns
returns c = hinted_sound
