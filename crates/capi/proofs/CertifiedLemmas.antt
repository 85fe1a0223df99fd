-- What is told of a certificate that is judged.
use Rattle.std.proofs.Common.{arith, ◌≡◌, ◌∙◌, ℕ, List, Some, ap, refl, sym}
use Rattle.certificates.specs.declared.proof_form.ProofForm.{ProofForm}
use Rattle.drup.specs.declared.judgement.Judgement.{Judgement}
use Rattle.drup.specs.declared.judgement.Judgement.TheVariants as judgement
use Rattle.invocation.specs.declared.tasks.Certified.{Certified}
use Rattle.verbs.specs.Certificates.{IsJudgedCertificate}
use Rattle.verbs.specs.Given.{NeverRises}
use Rattle.verbs.specs.declared.certifying.JudgedCertificate.{JudgedCertificate}
use Rattle.capi.specs.Answers.{proof_verdict_of}
use Rattle.capi.specs.Certified.{CallCertifies}
use Rattle.capi.specs.declared.answers.Verdict.{Verdict}

-- what a verdict of kind 0 says of a judgement
holds_where : (so : Type 0) (j : Judgement) → ((line : ℕ) → j ≡ judgement.Derived line → so) → (proof_verdict_of j).kind ≡ 0 → so
holds_where so (judgement.Derived line) h is = h line refl
holds_where so (judgement.Malformed line why) h is = absurd (omega (arith, is))
holds_where so (judgement.NotImplied line) h is = absurd (omega (arith, is))
holds_where so judgement.NotDerived h is = absurd (omega (arith, is))

pub certifies : (of : Certified) (form : ProofForm) (first second third : List ℕ) (answer : JudgedCertificate) (verdict : Verdict)
    → IsJudgedCertificate of form (Some first) (Some second) (Some third) answer → verdict ≡ proof_verdict_of answer.judgement → CallCertifies of form first second third verdict
certifies of form first second third answer verdict is told = record {
  answer = answer;
  is = is;
  told = told;
  holds = λ kind. holds_where (NeverRises of.given (Some first) answer.given.circuit is.given.gives answer.claim) answer.judgement is.holds (sym (ap (λ (v : Verdict). v.kind) told) ∙ kind);
}
