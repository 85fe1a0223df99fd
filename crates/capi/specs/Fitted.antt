-- What the exported calls on witnesses of fitted models answer, said of the bytes that they are given.
use Rattle.std.specs.Prelude.{◌≡◌, ℕ, Bool, List, [], Option, Some}
use Rattle.verbs.specs.LiftingFitted.{IsFormLiftedFitted, IsFoundLiftedFitted, IsLiftedFitted}
use Rattle.verbs.specs.Whole.{IsJudgedFitted, IsSpread, IsUnfitted}
use Rattle.verbs.specs.declared.lifting_fitted.FoundLiftedFitted.{FoundLiftedFitted}
use Rattle.verbs.specs.declared.lifting_fitted.LiftedFitted.{LiftedFitted}
use Rattle.witness.specs.declared.judgement.Judgement.{Judgement}
use Rattle.capi.specs.Answers.{found_verdict_of, verdict_of}
use Rattle.capi.specs.declared.answers.Verdict.{Verdict}

-- the second text, a witness, is judged so over the first text's model, which may be of the whole language
pub record CallJudgesFitted (model witness : List ℕ) (verdict : Verdict) : Type 0 where
  pub judgement : Judgement
  pub is : IsJudgedFitted (Some model) (Some witness) judgement
  pub told : verdict ≡ verdict_of judgement

-- some bytes are the witness of a model with words of any width that says what the second text says of the fitted model, and it is judged so
pub record CallUnfits (named : Bool) (model witness : List ℕ) (verdict : Verdict) (bytes : List ℕ) : Type 0 where
  pub judgement : Judgement
  pub is : IsUnfitted named (Some model) (Some witness) (Some []) (Some bytes) judgement
  pub told : verdict ≡ verdict_of judgement

-- the same the other way round
pub record CallSpreads (model witness : List ℕ) (verdict : Verdict) (bytes : List ℕ) : Type 0 where
  pub judgement : Judgement
  pub is : IsSpread (Some model) (Some witness) (Some []) (Some bytes) judgement
  pub told : verdict ≡ verdict_of judgement

-- the second text, a witness of the circuit of the model that the first text's model is fitted into, is lifted to some bytes, with names or without, and it is judged so
pub record CallLiftsFitted (named : Bool) (model witness : List ℕ) (verdict : Verdict) (bytes : List ℕ) : Type 0 where
  pub answer : LiftedFitted
  pub is : IsLiftedFitted named (Some model) (Some witness) (Some []) (Some bytes) answer
  pub told : verdict ≡ verdict_of answer.judgement

-- the same of a witness of the engine form of that circuit
pub record CallLiftsFormFitted (named : Bool) (choice : Option ℕ) (model witness : List ℕ) (verdict : Verdict) (bytes : List ℕ) : Type 0 where
  pub answer : LiftedFitted
  pub is : IsFormLiftedFitted named choice (Some model) (Some witness) (Some []) (Some bytes) answer
  pub told : verdict ≡ verdict_of answer.judgement

-- the same of a counterexample over that form
pub record CallLiftsFoundFitted (named : Bool) (choice : Option ℕ) (model found : List ℕ) (verdict : Verdict) (bytes : List ℕ) : Type 0 where
  pub answer : FoundLiftedFitted
  pub is : IsFoundLiftedFitted named choice (Some model) (Some found) (Some []) (Some bytes) answer
  pub told : verdict ≡ found_verdict_of (λ judged. judged.0) answer.told
