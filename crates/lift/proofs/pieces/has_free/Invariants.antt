use Rattle.std.proofs.Common.{◌≡◌, false, take}
use Rattle.std.specs.List.{list_any}
use Rattle.btor2.specs.Items.{is_state}
use Rattle.btor2.specs.Lists.{places, is_free_at}
use Rattle.lift.proofs.pieces.has_free.Given as goal

abbrev pub invariant-loop-k : goal.invariant-loop-k
invariant-loop-k l = list_any (is_free_at l.model) (take l.k (places is_state 0 l.model)) ≡ false
