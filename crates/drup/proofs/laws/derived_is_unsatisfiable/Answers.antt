use Rattle.drup.proofs.JudgementLemmas.{derived_sound}
use Rattle.drup.proofs.laws.derived_is_unsatisfiable.Goals as goal

pub returns : goal.returns
returns c = derived_sound
