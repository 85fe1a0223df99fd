use Rattle.std.proofs.Common.{refl}
use Rattle.std.specs.Fmt.{digits}
use Rattle.vcd.specs.Dumps.{vcd_text}
use Rattle.vcd.proofs.laws.worked_dumps.Goals as goal

pub returns : goal.returns
unfolding digits vcd_text
returns c = record { none = refl; changes = refl }
