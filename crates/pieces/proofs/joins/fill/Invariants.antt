use Rattle.std.proofs.Common.{◌-◌, ◌≤◌}
use Rattle.pieces.specs.Nodes.{Extends, MakesWord}
use Rattle.pieces.specs.Fills.{filled_word}
use Rattle.pieces.proofs.joins.fill.Given as goal

abbrev pub invariant-filling : goal.invariant-filling
invariant-filling l = record {
  within : l.left ≤ l.width;
  extends : Extends l.fn.maker l.maker;
  word : MakesWord l.maker (l.width - l.left) (λ g. filled_word g l.by (l.width - l.left)) l.out.items;
}

abbrev pub decreases-filling : goal.decreases-filling
decreases-filling l = l.left
