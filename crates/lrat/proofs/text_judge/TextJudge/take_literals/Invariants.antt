use Rattle.std.proofs.Common.{ℕ, List, ◌++◌, ◌-◌, ◌≤◌, length, take}
use Rattle.drup.specs.Formula.{Formula}
use Rattle.lrat.specs.TextJudges.{StandsForLines, IsReady}
use Rattle.lrat.proofs.text_judge.TextJudge.take_literals.Given as goal

-- the bytes before are taken
abbrev pub invariant-loop-next : goal.invariant-loop-next
invariant-loop-next l = record {
  stands : (f : Formula) (text : List ℕ) → StandsForLines f l.fn.self (text ++ take l.at l.bytes) → StandsForLines f l.self (text ++ take l.next l.bytes);
  ready : IsReady l.self;
  behind : l.at ≤ l.next;
  within : l.next ≤ length l.bytes;
}

abbrev pub decreases-loop-next : goal.decreases-loop-next
decreases-loop-next l = length l.bytes - l.next
