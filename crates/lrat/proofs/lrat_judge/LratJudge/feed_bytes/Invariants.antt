use Rattle.std.proofs.Common.{◌≡◌, ℕ, List, ◌++◌, ◌-◌, ◌≤◌, length, take}
use Rattle.drup.specs.Formula.{Formula}
use Rattle.lrat.specs.LratJudges.{StandsForBytes}
use Rattle.lrat.proofs.lrat_judge.LratJudge.feed_bytes.Given as goal

-- the bytes before are taken
abbrev pub invariant-loop-at : goal.invariant-loop-at
invariant-loop-at l = record {
  stands : (f : Formula) (text : List ℕ) → StandsForBytes f l.fn.self text → StandsForBytes f l.self (text ++ take l.at l.bytes);
  form : l.self.form ≡ l.fn.self.form;
  within : l.at ≤ length l.bytes;
}

abbrev pub decreases-loop-at : goal.decreases-loop-at
decreases-loop-at l = length l.bytes - l.at
