use Rattle.witness_circuits.proofs.SharedLemmas.{shared_mapping}
use Rattle.witness_circuits.proofs.laws.shared_is_a_mapping.Goals as goal

pub returns : goal.returns
returns c numbering circuit w = shared_mapping numbering circuit w
