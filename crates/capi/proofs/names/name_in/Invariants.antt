use Rattle.std.proofs.Common.{◌≡◌, length}
use Rattle.capi.specs.Named.{name_listed}
use Rattle.capi.proofs.names.name_in.Given as goal

abbrev pub invariant-loop-rest : goal.invariant-loop-rest
invariant-loop-rest l = name_listed l.number l.rest ≡ name_listed l.number l.rows

abbrev pub decreases-loop-rest : goal.decreases-loop-rest
decreases-loop-rest l = length l.rest
