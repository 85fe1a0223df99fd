-- What the exported calls that judge witnesses answer, said of the bytes that they are given.
use Rattle.std.specs.Prelude.{◌≡◌, ℕ, suc, Bool, ◌==◌, List, [], ◌∷◌, ◌++◌, Option, None, Some, if◌then◌else◌}
use Rattle.verbs.specs.Judging.{IsJudged, IsJudgedFor, IsJudgedFittedFor, IsJudgedOver, IsJudgedOverFor, claim_over}
use Rattle.verbs.specs.declared.judging.JudgedOverCircuit.{JudgedOverCircuit}
use Rattle.verbs.specs.declared.judging.JudgedOverModel.{JudgedOverModel}
use Rattle.verbs.specs.declared.judging_whole.JudgedFitted.{JudgedFitted}
use Rattle.witness.specs.declared.judgement.Judgement.{Judgement}
use Rattle.capi.specs.Answers.{outcome_verdict_of, verdict_of}
use Rattle.capi.specs.Flags.{choice_of, word_asked}
use Rattle.capi.specs.declared.answers.Claim.{Claim}
use Rattle.capi.specs.declared.answers.Verdict.{Verdict}

-- the second text, a witness, is judged so over the first text's model
pub record CallJudges (model witness : List ℕ) (verdict : Verdict) : Type 0 where
  pub judgement : Judgement
  pub is : IsJudged (Some model) (Some witness) judgement
  pub told : verdict ≡ verdict_of judgement

-- the same over the first text's circuit
pub record CallJudgesOver (circuit witness : List ℕ) (verdict : Verdict) : Type 0 where
  pub judgement : Judgement
  pub is : IsJudgedOver (Some circuit) (Some witness) judgement
  pub told : verdict ≡ verdict_of judgement

-- ---- claims

-- a claim that is reached first in a frame; and none where it is in no frame
abbrev pub claim_of : ℕ → Option ℕ → List Claim
claim_of bad None = []
claim_of bad (Some first) = record { bad = bad; frame = first } ∷ []

-- the same of the bad properties from a number on
abbrev pub claims_from : ℕ → List (Option ℕ) → List Claim
claims_from bad [] = []
claims_from bad (first ∷ more) = claim_of bad first ++ claims_from (suc bad) more

-- what is told of the claims with a verdict: of an acceptance all, with their first rises, and else nothing
abbrev pub told_claims : Verdict → List (Option ℕ) → List Claim
told_claims verdict firsts = if verdict.kind == 0 then claims_from 0 firsts else []

-- the second text, a witness, is judged so over the first text's model, where the bad property at a position is asked for or none; and these are the claims of an acceptance, each with the first frame in which it is reached
pub record CallJudgesFor (chosen : Bool) (bad : ℕ) (model witness : List ℕ) (verdict : Verdict) (claims : List Claim) : Type 0 where
  pub answer : JudgedOverModel
  pub is : IsJudgedFor (word_asked chosen bad) (Some model) (Some witness) answer
  pub for_choice : is.claim ≡ choice_of chosen bad
  pub told : verdict ≡ outcome_verdict_of answer.outcome
  pub listed : claims ≡ told_claims verdict answer.firsts

-- the same over the first text's model of the whole language
pub record CallJudgesWholeFor (chosen : Bool) (bad : ℕ) (model witness : List ℕ) (verdict : Verdict) (claims : List Claim) : Type 0 where
  pub answer : JudgedFitted
  pub is : IsJudgedFittedFor (word_asked chosen bad) (Some model) (Some witness) answer
  pub for_choice : claim_over (word_asked chosen bad) (Some model) (Some witness) answer.model answer.outcome answer.firsts is ≡ choice_of chosen bad
  pub told : verdict ≡ outcome_verdict_of answer.outcome
  pub listed : claims ≡ told_claims verdict answer.firsts

-- the same over the first text's circuit
pub record CallJudgesOverFor (chosen : Bool) (bad : ℕ) (circuit witness : List ℕ) (verdict : Verdict) (claims : List Claim) : Type 0 where
  pub answer : JudgedOverCircuit
  pub is : IsJudgedOverFor (word_asked chosen bad) (Some circuit) (Some witness) answer
  pub for_choice : is.claim ≡ choice_of chosen bad
  pub told : verdict ≡ outcome_verdict_of answer.outcome
  pub listed : claims ≡ told_claims verdict answer.firsts
