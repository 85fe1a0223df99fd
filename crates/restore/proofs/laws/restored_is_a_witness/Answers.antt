use Rattle.restore.proofs.RestoredLemmas.{is_witness}
use Rattle.restore.proofs.laws.restored_is_a_witness.Goals as goal

pub returns : goal.returns
returns c = is_witness
