use Rattle.witness.proofs.AcceptLemmas.{bit_accepts_exactly}
use Rattle.witness.proofs.bit_laws.accepted_exactly.Goals as goal

pub returns : goal.returns
returns c = bit_accepts_exactly
