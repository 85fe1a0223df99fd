use Rattle.witness_circuits.proofs.CheckLemmas.{guards}
use Rattle.witness_circuits.proofs.laws.certificates_guard.Goals as goal

pub returns : goal.returns
returns c = guards
