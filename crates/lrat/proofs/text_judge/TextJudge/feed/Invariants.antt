use Rattle.std.proofs.Common.{ℕ, List, ◌++◌, ◌-◌, ◌≤◌, length, take}
use Rattle.drup.specs.Formula.{Formula}
use Rattle.lrat.specs.TextJudges.{StandsForLines}
use Rattle.lrat.proofs.text_judge.TextJudge.feed.Given as goal

-- the bytes before are taken
abbrev pub invariant-loop-at : goal.invariant-loop-at
invariant-loop-at l = record {
  stands : (f : Formula) (text : List ℕ) → StandsForLines f l.fn.self text → StandsForLines f l.self (text ++ take l.at l.bytes);
  within : l.at ≤ length l.bytes;
}

abbrev pub decreases-loop-at : goal.decreases-loop-at
decreases-loop-at l = length l.bytes - l.at
