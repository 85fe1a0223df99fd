use Rattle.std.proofs.Common.{ℕ, ◌-◌, ◌≤◌, List, ◌++◌, take, length}
use Rattle.drup.specs.Formula.{Formula}
use Rattle.drup.specs.TextJudges.{StandsForLines}
use Rattle.drup.proofs.text_judge.TextJudge.feed.Given as goal

-- the bytes before the place are taken
abbrev pub invariant-loop-place : goal.invariant-loop-place
invariant-loop-place l = (l.place ≤ length l.bytes) × ((f : Formula) (text : List ℕ) → StandsForLines f l.fn.self text → StandsForLines f l.self (text ++ take l.place l.bytes))

abbrev pub decreases-loop-place : goal.decreases-loop-place
decreases-loop-place l = length l.bytes - l.place
