use Rattle.restore.proofs.RestoredLemmas.{accepted}
use Rattle.restore.proofs.laws.restored_is_accepted.Goals as goal

pub returns : goal.returns
returns c = accepted
