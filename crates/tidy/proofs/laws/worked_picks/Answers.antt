use Rattle.std.proofs.Common.{refl}
use Rattle.tidy.specs.Tidied.{tidied}
use Rattle.tidy.proofs.laws.worked_picks.Goals as goal

pub returns : goal.returns
unfolding tidied
returns c = record { first = refl; second = refl; behind_none = refl; third = refl; comment = refl; none = refl }
