use Rattle.std.proofs.Common.{ap, false}
use Rattle.witness.proofs.BitReadLemmas.{no_claim_is_refused}
use Rattle.lift.proofs.LineLemmas.{nothing_lifted}
use Rattle.lift.proofs.laws.no_claim_is_lifted_to_nothing.Goals as goal

pub returns : goal.returns
returns c items circuit text h = nothing_lifted false items circuit text (ap (λ g. g.admitted) (no_claim_is_refused circuit text h))
