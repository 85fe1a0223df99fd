use Rattle.drup.proofs.SoundLemmas.{is_satisfied}
use Rattle.drup.proofs.laws.implied_is_satisfied.Goals as goal

pub returns : goal.returns
returns c = is_satisfied
