use Rattle.drup.proofs.WorkedLemmas.{chain-closure}
use Rattle.drup.proofs.laws.worked_chain.Goals as goal

pub returns : goal.returns
returns c = chain-closure
