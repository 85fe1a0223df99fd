use Rattle.std.proofs.Common.{ℕ, List, ◌++◌, take}
use Rattle.drup.specs.Formula.{Formula}
use Rattle.lrat.specs.LratJudges.{StandsForLrat}
use Rattle.lrat.proofs.lrat_judge.LratJudge.take_all.Given as goal

-- the bytes before are taken
abbrev pub invariant-loop-byte : goal.invariant-loop-byte
invariant-loop-byte l = (f : Formula) (text : List ℕ) → StandsForLrat f l.fn.self text → StandsForLrat f l.self (text ++ take l.byte-index l.bytes)
