-- What the exported calls on certificates answer, said of the bytes that they are given.
use Rattle.std.specs.Prelude.{◌≡◌, ℕ, List, Some}
use Rattle.drup.specs.Formula.{Formula}
use Rattle.drup.specs.FormulaTexts.{formula_text}
use Rattle.certificates.specs.declared.proof_form.ProofForm.{ProofForm}
use Rattle.invocation.specs.declared.tasks.Certified.{Certified}
use Rattle.verbs.specs.Certificates.{IsJudgedCertificate, IsOwedFormula}
use Rattle.verbs.specs.Given.{NeverRises}
use Rattle.verbs.specs.Refusals.{IsFaultyCertificate, IsNotCertifiable}
use Rattle.verbs.specs.declared.certifying.JudgedCertificate.{JudgedCertificate}
use Rattle.capi.specs.Answers.{proof_verdict_of}
use Rattle.capi.specs.Stops.{Stops}
use Rattle.capi.specs.declared.answers.Refusal.{Refusal}
use Rattle.capi.specs.declared.answers.Verdict.{Verdict}

-- The second text, a certificate, and the third, a proof in this form of the formula that it owes, are judged so for the bad property that is claimed of what the first gives. Where that is that it holds, it rises in no frame up to which the constraints hold.
pub record CallCertifies (of : Certified) (form : ProofForm) (first second third : List ℕ) (verdict : Verdict) : Type 0 where
  pub answer : JudgedCertificate
  pub is : IsJudgedCertificate of form (Some first) (Some second) (Some third) answer
  pub told : verdict ≡ proof_verdict_of answer.judgement
  pub holds : verdict.kind ≡ 0 → NeverRises of.given (Some first) answer.given.circuit is.given.gives answer.claim

-- some bytes are the text of the formula that the second text, a certificate, owes for the bad property that is claimed of what the first gives
pub record CallOwes (of : Certified) (first second bytes : List ℕ) : Type 0 where
  pub formula : Formula
  pub is : IsOwedFormula of (Some first) (Some second) formula
  pub text : bytes ≡ formula_text formula

-- why a call on a certificate stops: the first text gives nothing that it is judged for, or the second owes no formula for that
abbrev pub StopsCertifying : Certified → List ℕ → List ℕ → ℕ → Refusal → Refusal → Type 0
StopsCertifying of first second = Stops (IsNotCertifiable of.by of.given of.choice (Some first)) (IsFaultyCertificate of.by of.given of.choice (Some first) (Some second))
