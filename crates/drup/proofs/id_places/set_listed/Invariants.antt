use Rattle.std.proofs.Common.{◌≡◌, ℕ, ◌+◌, ◌-◌, length, get_or}
use Rattle.drup.proofs.id_places.set_listed.Given as goal

-- what stands for no place was put behind the list
abbrev pub invariant-loop-list : goal.invariant-loop-list
invariant-loop-list l = (i : ℕ) → get_or l.list.items i 4294967295 ≡ get_or l.initial.list.items i 4294967295

abbrev pub decreases-loop-list : goal.decreases-loop-list
decreases-loop-list l = l.k + 1 - length l.list.items
