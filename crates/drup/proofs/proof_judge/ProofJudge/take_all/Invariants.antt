use Rattle.std.proofs.Common.{ℕ, List, ◌++◌, take}
use Rattle.drup.specs.Formula.{Formula}
use Rattle.drup.specs.ProofJudges.{StandsForText}
use Rattle.drup.proofs.proof_judge.ProofJudge.take_all.Given as goal

-- the bytes before are taken
abbrev pub invariant-loop-byte : goal.invariant-loop-byte
invariant-loop-byte l = (f : Formula) (text : List ℕ) → StandsForText f l.fn.self text → StandsForText f l.self (text ++ take l.byte-index l.bytes)
