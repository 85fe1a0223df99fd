use Rattle.std.proofs.Common.{refl}
use Rattle.std.specs.Fmt.{digits}
use Rattle.vcd.proofs.laws.worked_signal_names.Goals as goal

pub returns : goal.returns
unfolding digits
returns c = record { inputs = refl; states = refl; bads = refl; constraints = refl; outputs = refl; all = refl }
