use Rattle.std.proofs.Common.{◌≡◌, ℕ, ◌<◌, [], Some, slice_get}
use Rattle.order.specs.declared.walk.Progress.TheVariants.{New}
use Rattle.order.specs.Walk.{IsUnderway}
use Rattle.order.proofs.ordering.order.Given as goal

abbrev pub invariant-loop-number : goal.invariant-loop-number
invariant-loop-number l = record {
  underway : IsUnderway l.needs l.walk.progress.items l.walk.stack.items l.walk.order.items;
  empty : l.walk.stack.items ≡ [];
  passed : (k : ℕ) → k < l.number → slice_get l.walk.progress.items k ≡ Some New → ⊥;
}
