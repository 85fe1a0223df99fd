use Rattle.witness.proofs.AcceptLemmas.{accepts_exactly}
use Rattle.witness.proofs.laws.accepted_exactly.Goals as goal

pub returns : goal.returns
returns c = accepts_exactly
