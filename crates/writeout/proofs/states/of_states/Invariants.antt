use Rattle.std.proofs.Common.{◌≡◌, take}
use Rattle.btor2.specs.Items.{is_state}
use Rattle.writeout.specs.Leaves.{of_kind_lines}
use Rattle.writeout.proofs.states.of_states.Given as goal

abbrev pub invariant-loop-place : goal.invariant-loop-place
invariant-loop-place l = l.list.items ≡ of_kind_lines is_state (take l.place l.full) (take l.place l.numbers)
