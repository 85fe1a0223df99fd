use Rattle.std.proofs.Common.{◌-◌, ◌<◌, length, get_or}
use Rattle.drup.specs.Lists.{list_at}
use Rattle.drup.specs.Watched.{IsPassed}
use Rattle.drup.proofs.WalkLemmas.{Walking}
use Rattle.drup.proofs.watches.walk.Given as goal

-- the watch at the place, if there is one, is to be looked at
abbrev pub invariant-loop-place : goal.invariant-loop-place
invariant-loop-place l =
    Walking l.clauses (length l.fn.trail.marks) l.negated l.fn.watched l.fn.trail l.watched l.lists l.trail l.place
    × (l.place < length (list_at l.lists l.negated) → IsPassed l.watched (get_or (list_at l.lists l.negated) l.place 0) l.trail → ⊥)

abbrev pub decreases-loop-place : goal.decreases-loop-place
decreases-loop-place l = length (list_at l.lists l.negated) - l.place
