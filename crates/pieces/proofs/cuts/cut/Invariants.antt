use Rattle.std.proofs.Common.{◌≡◌, ◌+◌, ◌-◌, ◌/◌, ◌%◌, ◌^◌, ◌≤◌}
use Rattle.std.specs.List.{AllByRecursion}
use Rattle.pieces.specs.Nodes.{word_of, Extends, MakesWord}
use Rattle.pieces.specs.Cuts.{widths, IsCut, IsBehind, IsInFirst}
use Rattle.pieces.proofs.cuts.cut.Given as goal

abbrev pub invariant-cutting : goal.invariant-cutting
invariant-cutting l = record {
  extends : Extends l.fn.maker l.maker;
  within : l.left ≤ l.width;
  behind : IsBehind l.nodes (l.low + (l.width - l.left)) l.rest l.inside;
  first : IsInFirst l.rest l.inside;
  word : MakesWord l.maker (l.width - l.left) (λ g. word_of g l.nodes / 2 ^ l.low % 2 ^ (l.width - l.left)) l.out.items;
  full : 1 ≤ l.left → AllByRecursion (λ w. w ≡ l.size) (widths l.out.items);
  cut : l.left ≡ 0 → IsCut l.size (widths l.out.items);
}

abbrev pub decreases-cutting : goal.decreases-cutting
decreases-cutting l = l.left
