use Rattle.std.proofs.Common.{◌≡◌, ℕ, List, ◌++◌, length}
use Rattle.aiger.specs.Circuit.{Circuit}
use Rattle.witness.specs.BitStands.{StandsForBits}
use Rattle.witness.proofs.bit_judge.BitJudge.feed.Given as goal

-- the bytes in front of the rest are taken
abbrev pub invariant-loop-line : goal.invariant-loop-line
invariant-loop-line l = (c : Circuit) (text : List ℕ) → StandsForBits c l.fn.self text → (front : List ℕ) × ((l.bytes ≡ front ++ l.rest) × StandsForBits c l.self (text ++ front))

abbrev pub decreases-loop-line : goal.decreases-loop-line
decreases-loop-line l = length l.rest
