use Rattle.widetext.proofs.ProfileLemmas.{profile_stands}
use Rattle.widetext.proofs.laws.profile_is_read.Goals as goal

pub returns : goal.returns
returns c = profile_stands
