use Rattle.std.proofs.Common.{map, take}
use Rattle.fullmodel.specs.Lines.{line_of}
use Rattle.writeout.specs.Faults.{NoneIsLive}
use Rattle.writeout.proofs.live.first_live.Given as goal

abbrev pub invariant-loop-line : goal.invariant-loop-line
invariant-loop-line l = NoneIsLive (map line_of (take l.line-index l.lines))
