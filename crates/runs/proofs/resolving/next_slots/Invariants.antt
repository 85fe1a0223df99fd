use Rattle.std.proofs.Common.{◌≡◌, map, take}
use Rattle.btor2.specs.Items.{is_state}
use Rattle.runs.specs.Frames.{ids_of}
use Rattle.runs.specs.Holds.{next_slot}
use Rattle.runs.proofs.resolving.next_slots.Given as goal

abbrev pub invariant-loop-k : goal.invariant-loop-k
invariant-loop-k l = l.nexts.items ≡ map (next_slot l.model) (take l.k (ids_of is_state l.model))
