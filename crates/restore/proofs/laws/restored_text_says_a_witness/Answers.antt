use Rattle.restore.proofs.RiseLemmas.{says}
use Rattle.restore.proofs.laws.restored_text_says_a_witness.Goals as goal

pub returns : goal.returns
returns c = says
