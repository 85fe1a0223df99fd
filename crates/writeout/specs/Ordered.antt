-- What stands while the lines of a model get their nodes in an order.
use Rattle.std.specs.Prelude.{◌≡◌, ℕ, ◌<◌, true, List, [], Some, slice_get, is_some}
use Rattle.full.specs.Lines.{FullLine, sort_named}
use Rattle.full.specs.Runs.{at_place}
use Rattle.writeout.specs.Writings.{Writing, IsGiven}
use Rattle.writeout.specs.Nodes.{NodesStand}
use Rattle.writeout.specs.Leaves.{LeavesWritten}
use Rattle.writeout.specs.Late.{LateWritten}

-- The first lines of an order, `count` of them, have their nodes where they have a value.
pub record OrderPut (full : List FullLine) (list : List ℕ) (count : ℕ) (w : Writing) : Type 0 where
  pub nodes : NodesStand full w
  pub leaves : LeavesWritten full w
  pub late : LateWritten full [] w
  pub done : (j k : ℕ) (x : FullLine) → j < count → slice_get list j ≡ Some k → slice_get full k ≡ Some x → is_some (sort_named x.says) ≡ true → IsGiven (at_place w.nodes k)
