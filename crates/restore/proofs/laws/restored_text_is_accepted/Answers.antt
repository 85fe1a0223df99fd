use Rattle.restore.proofs.RiseLemmas.{accepted}
use Rattle.restore.proofs.laws.restored_text_is_accepted.Goals as goal

pub returns : goal.returns
returns c = accepted
