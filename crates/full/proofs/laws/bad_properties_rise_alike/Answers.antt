use Rattle.full.proofs.UpLemmas.{up}
use Rattle.full.proofs.TraceLemmas.{down}
use Rattle.full.proofs.laws.bad_properties_rise_alike.Goals as goal

pub returns-clause-up : goal.returns-clause-up
returns-clause-up c = up

pub returns-clause-down : goal.returns-clause-down
returns-clause-down c = down
