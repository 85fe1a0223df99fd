use Rattle.std.proofs.Common.{◌≡◌, Some, slice_get}
use Rattle.order.specs.declared.walk.Progress.TheVariants.{New}
use Rattle.order.specs.Walk.{IsUnderway, NoneBecomesNew, all_steps_left}
use Rattle.order.proofs.walk.Walk.visit.Given as goal

abbrev pub invariant-walking : goal.invariant-walking
invariant-walking l = record {
  underway : IsUnderway l.needs l.self.progress.items l.self.stack.items l.self.order.items;
  first : slice_get l.self.progress.items l.first ≡ Some New → ⊥;
  none_new : NoneBecomesNew l.fn.self.progress.items l.self.progress.items;
}

abbrev pub decreases-walking : goal.decreases-walking
decreases-walking l = all_steps_left l.needs l.self.progress.items
