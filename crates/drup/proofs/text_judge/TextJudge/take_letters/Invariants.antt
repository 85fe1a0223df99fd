use Rattle.std.proofs.Common.{ℕ, ◌-◌, ◌≤◌, List, ◌++◌, take, length}
use Rattle.drup.specs.Formula.{Formula}
use Rattle.drup.specs.TextJudges.{StandsForLines}
use Rattle.drup.proofs.text_judge.TextJudge.take_letters.Given as goal

-- the bytes before the place are taken, where the word is that one
abbrev pub invariant-loop-word : goal.invariant-loop-word
invariant-loop-word l = (l.from ≤ l.place) × (l.place ≤ length l.bytes) × ((f : Formula) (text : List ℕ) → StandsForLines f l.fn.self (text ++ take l.from l.bytes) → StandsForLines f (record l.fn.self { word = l.word }) (text ++ take l.place l.bytes))

abbrev pub decreases-loop-word : goal.decreases-loop-word
decreases-loop-word l = length l.bytes - l.place
