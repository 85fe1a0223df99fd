use Rattle.drup.proofs.OpenedLemmas.{seen_none}
use Rattle.drup.proofs.hints.Seen.new.Goals as goal

pub returns : goal.returns
returns c = seen_none
