use Rattle.std.proofs.Common.{◌≡◌, ℕ, List, ◌++◌, ◌-◌, ◌≤◌, length, take}
use Rattle.drup.specs.Formula.{Formula}
use Rattle.lrat.specs.declared.scan.Spot.TheVariants as spot
use Rattle.lrat.specs.Scans.{BeginsNumber}
use Rattle.lrat.specs.LratJudges.{StandsForBytes}
use Rattle.lrat.proofs.lrat_judge.LratJudge.take_literals.Given as goal

-- the bytes before are taken
abbrev pub invariant-loop-next : goal.invariant-loop-next
invariant-loop-next l = record {
  stands : (f : Formula) (text : List ℕ) → StandsForBytes f l.fn.self (text ++ take l.at l.bytes) → StandsForBytes f l.self (text ++ take l.next l.bytes);
  form : l.self.form ≡ l.fn.self.form;
  begins : BeginsNumber l.self.scan;
  spot : l.self.scan.spot ≡ spot.Literal;
  behind : l.at ≤ l.next;
  within : l.next ≤ length l.bytes;
}

abbrev pub decreases-loop-next : goal.decreases-loop-next
decreases-loop-next l = length l.bytes - l.next
