use Rattle.std.proofs.Common.{map, take}
use Rattle.fullmodel.specs.Lines.{line_of}
use Rattle.writeout.specs.Putting.{LeavesMade}
use Rattle.writeout.proofs.leaves.put_each.Given as goal

abbrev pub invariant-loop-line : goal.invariant-loop-line
invariant-loop-line l = LeavesMade l.full (map line_of (take l.line-index l.line-items)) l.maker l.nodes.items l.leaves.items l.any
