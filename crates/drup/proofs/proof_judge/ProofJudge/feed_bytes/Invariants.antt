use Rattle.std.proofs.Common.{ℕ, List, ◌++◌, take}
use Rattle.drup.specs.Formula.{Formula}
use Rattle.drup.specs.ProofJudges.{StandsForBytes}
use Rattle.drup.proofs.proof_judge.ProofJudge.feed_bytes.Given as goal

-- the bytes before are taken
abbrev pub invariant-loop-byte : goal.invariant-loop-byte
invariant-loop-byte l = (f : Formula) (text : List ℕ) → StandsForBytes f l.fn.self text → StandsForBytes f l.self (text ++ take l.byte-index l.bytes)
