use Rattle.std.proofs.Common.{◌≡◌, ◌≤◌, map, drop}
use Rattle.wide.specs.Lines.{item_of}
use Rattle.witness.specs.Texts.{shape_of}
use Rattle.rejoin.specs.Shapes.{with_items}
use Rattle.rejoin.proofs.shape.Shape.new.Given as goal

abbrev pub invariant-loop-line : goal.invariant-loop-line
invariant-loop-line l = (with_items l.model l.shape (map item_of (drop l.line-index l.lines)) ≡ shape_of l.model) × (l.shape.bads ≤ l.line-index)
