use Rattle.meaning.proofs.WordAcceptLemmas.{accepted}
use Rattle.meaning.proofs.reaching.reached_is_accepted.Goals as goal

pub returns : goal.returns
returns c = accepted
