-- What the exported calls that restore what engines find over engine forms of circuits answer, said of the bytes that they are given.
use Rattle.std.specs.Prelude.{◌≡◌, ℕ, List, [], Option, Some}
use Rattle.verbs.specs.Restoring.{IsFormRestored, IsFoundRestored}
use Rattle.verbs.specs.declared.restoring.FoundRestored.{FoundRestored}
use Rattle.verbs.specs.declared.restoring.Restored.{Restored}
use Rattle.capi.specs.Answers.{found_verdict_of, verdict_of}
use Rattle.capi.specs.declared.answers.Verdict.{Verdict}

-- the second text, a witness of the engine form of the first text's circuit, is restored to some bytes, and is judged so
pub record CallRestoresForm (choice : Option ℕ) (circuit witness : List ℕ) (verdict : Verdict) (bytes : List ℕ) : Type 0 where
  pub answer : Restored
  pub is : IsFormRestored choice (Some circuit) (Some witness) (Some []) (Some bytes) answer
  pub told : verdict ≡ verdict_of answer.judgement

-- the second text, a counterexample over that form, is restored to some bytes, and this is told of it
pub record CallRestoresFound (choice : Option ℕ) (circuit found : List ℕ) (verdict : Verdict) (bytes : List ℕ) : Type 0 where
  pub answer : FoundRestored
  pub is : IsFoundRestored choice (Some circuit) (Some found) (Some []) (Some bytes) answer
  pub told : verdict ≡ found_verdict_of (λ judged. judged) answer.told
