use Rattle.drup.proofs.SoundLemmas.{is_unsatisfied}
use Rattle.drup.proofs.laws.conflict_is_unsatisfied.Goals as goal

pub returns : goal.returns
returns c = is_unsatisfied
