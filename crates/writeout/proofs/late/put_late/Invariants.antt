use Rattle.std.proofs.Common.{take}
use Rattle.writeout.specs.Tables.{writing}
use Rattle.writeout.specs.LateLines.{StandsAt}
use Rattle.writeout.proofs.late.put_late.Given as goal

abbrev pub invariant-loop-place : goal.invariant-loop-place
invariant-loop-place l = StandsAt l.full (take l.place l.full) (writing l.tables l.maker)
