use Rattle.std.proofs.Common.{◌≡◌, map, take}
use Rattle.fullmodel.specs.Lines.{line_of}
use Rattle.celled.specs.Written.{cells_among, kind_of}
use Rattle.celled.proofs.written.leaf_cells.Given as goal

abbrev pub invariant-loop-line : goal.invariant-loop-line
invariant-loop-line l = l.cells.items ≡ cells_among (kind_of l.leaves) l.full (map line_of (take l.line-index l.lines))
