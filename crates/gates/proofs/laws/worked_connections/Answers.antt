use Rattle.std.proofs.Common.{refl}
use Rattle.std.specs.Int.Count.{ones}
use Rattle.gates.proofs.laws.worked_connections.Goals as goal

pub returns-clause-odd_of_7 : goal.returns-clause-odd_of_7
unfolding ones
returns-clause-odd_of_7 c = refl
