use Rattle.std.proofs.Common.{refl}
use Rattle.std.specs.Fmt.{digits}
use Rattle.vcd.proofs.laws.worked_declarations.Goals as goal

pub returns : goal.returns
unfolding digits
returns c = record { named = refl; all = refl }
