use Rattle.std.proofs.Common.{◌≡◌, length}
use Rattle.capi.specs.Named.{name_among}
use Rattle.capi.proofs.names.name_among.Given as goal

abbrev pub invariant-loop-rest : goal.invariant-loop-rest
invariant-loop-rest l = name_among l.number l.rest ≡ name_among l.number l.parts

abbrev pub decreases-loop-rest : goal.decreases-loop-rest
decreases-loop-rest l = length l.rest
