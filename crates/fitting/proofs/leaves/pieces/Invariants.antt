use Rattle.std.proofs.Common.{◌≡◌, ◌+◌, ◌≤◌}
use Rattle.std.specs.List.{AllByRecursion}
use Rattle.pieces.specs.Nodes.{bits_in, AreNodes}
use Rattle.pieces.specs.Cuts.{widths, IsCut}
use Rattle.fitting.specs.Names.{names_from}
use Rattle.fitting.specs.Steps.{AddsLeaves}
use Rattle.fitting.proofs.leaves.pieces.Given as goal

abbrev pub decreases-loop-left : goal.decreases-loop-left
decreases-loop-left l = l.left

abbrev pub invariant-loop-left : goal.invariant-loop-left
invariant-loop-left l = record {
  nodes : AreNodes l.maker l.out.items;
  width : bits_in l.out.items + l.left ≡ l.width;
  adds : AddsLeaves l.is_input l.fn.maker l.maker l.out.items (names_from l.symbol 0 (widths l.out.items));
  full : 1 ≤ l.left → AllByRecursion (λ w. w ≡ 64) (widths l.out.items);
  cut : l.left ≡ 0 → IsCut 64 (widths l.out.items);
}
