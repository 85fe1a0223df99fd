use Rattle.drup.proofs.SoundLemmas.{model_after}
use Rattle.drup.proofs.laws.models_stay.Goals as goal

pub returns : goal.returns
returns c = model_after
