use Rattle.fitting.proofs.ProfileLemmas.{itself_is_fit}
use Rattle.fitting.proofs.laws.profile_is_fitted.Goals as goal

pub returns : goal.returns
returns c = itself_is_fit
