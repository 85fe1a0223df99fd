use Rattle.std.proofs.Common.{◌≡◌, ◌-◌, ◌*◌, ◌%◌, ◌^◌, ◌≤◌, length}
use Rattle.std.specs.List.{AllByRecursion}
use Rattle.pieces.specs.Nodes.{Extends, MakesWord}
use Rattle.pieces.specs.Cuts.{widths, IsCut}
use Rattle.pieces.specs.Constants.{digits_value, AreConstants}
use Rattle.pieces.proofs.constants.constant.Given as goal

abbrev pub invariant-loop-k : goal.invariant-loop-k
invariant-loop-k l = record {
  within : l.k ≤ length l.digits;
  left : l.left ≡ l.width - 64 * l.k;
  extends : Extends l.fn.maker l.maker;
  word : MakesWord l.maker (l.width - l.left) (λ g. digits_value l.digits % 2 ^ (l.width - l.left)) l.out.items;
  constants : AreConstants l.maker l.out.items;
  full : 1 ≤ l.left → AllByRecursion (λ w. w ≡ 64) (widths l.out.items);
  cut : l.left ≡ 0 → IsCut 64 (widths l.out.items);
}
