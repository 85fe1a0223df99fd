use Rattle.std.proofs.Common.{◌≡◌, map, take}
use Rattle.fullmodel.specs.Lines.{line_of}
use Rattle.writeout.specs.Needs.{row_of}
use Rattle.writeout.proofs.needs.needs.Given as goal

abbrev pub invariant-loop-line : goal.invariant-loop-line
invariant-loop-line l = l.rows ≡ map (row_of l.full) (map line_of (take l.line-index l.line-items))
