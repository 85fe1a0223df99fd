use Rattle.meaning.proofs.BitAcceptLemmas.{accepted}
use Rattle.meaning.proofs.reaching.reached_in_circuit_is_accepted.Goals as goal

pub returns : goal.returns
returns c = accepted
