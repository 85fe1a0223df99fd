use Rattle.std.proofs.Common.{false}
use Rattle.lift.proofs.LineLemmas.{lifted_begins}
use Rattle.lift.proofs.laws.beginnings_are_lifted_to_beginnings.Goals as goal

pub returns : goal.returns
returns c items circuit front rest = lifted_begins false items circuit front rest
