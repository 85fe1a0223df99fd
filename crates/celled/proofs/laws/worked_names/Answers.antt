use Rattle.std.proofs.Common.{refl}
use Rattle.std.specs.Fmt.{digits}
use Rattle.celled.proofs.laws.worked_names.Goals as goal

pub returns-clause-cells : goal.returns-clause-cells
unfolding digits
returns-clause-cells c = refl
