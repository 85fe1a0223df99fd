-- What is owed and judged of certificates: of the text of an invariant or of a witness circuit, and that of a proof, for a bad property of a model or of a circuit.
use Rattle.std.specs.Prelude.{◌≡◌, ℕ, List, Option}
use Rattle.aiger.specs.Circuit.{Circuit}
use Rattle.drup.specs.declared.judgement.Judgement.{Judgement}
use Rattle.drup.specs.declared.judgement.Judgement.TheVariants as verdict
use Rattle.drup.specs.Formula.{Formula}
use Rattle.witness_circuits.specs.Owing.{IsTestedFormula, IsTestedOverForm}
use Rattle.certificates.specs.Certificates.{IsJudgedProof, IsOwed}
use Rattle.certificates.specs.declared.proof_form.ProofForm.{ProofForm}
use Rattle.invocation.specs.declared.tasks.Certificate.{Certificate}
use Rattle.invocation.specs.declared.tasks.Certificate.TheVariants as certificate
use Rattle.invocation.specs.declared.tasks.Certified.{Certified}
use Rattle.verbs.specs.Claims.{IsClaim}
use Rattle.verbs.specs.Given.{GivesItsCircuit, IsGiven, IsGivenNumbering, NeverRises}
use Rattle.verbs.specs.declared.certifying.JudgedCertificate.{JudgedCertificate}

-- a formula is what a text owes as a certificate of this kind, for a bad property of a circuit of which a file has this numbering
abbrev pub IsOwedBy : Certificate → Option (List ℕ) → Circuit → ℕ → Option (List ℕ) → Formula → Type 0
IsOwedBy certificate.Invariant n c k second f = IsOwed c k second f
IsOwedBy certificate.Circuit n c k second f = IsTestedFormula n c k second f
IsOwedBy certificate.CircuitOfForm n c k second f = IsTestedOverForm c k second f

-- a certificate of this kind and a proof in this form are judged so: the proof is, over the formula that the certificate owes
pub record IsCertifiedBy (by : Certificate) (form : ProofForm) (n : Option (List ℕ)) (c : Circuit) (k : ℕ) (second third : Option (List ℕ)) (j : Judgement) : Type 0 where
  pub formula : Formula
  pub is_owed : IsOwedBy by n c k second formula
  pub judged : IsJudgedProof form formula third j

-- The second text is of a certificate, and this is the formula that it owes for the bad property that is claimed of what the first gives.
pub record IsOwedFormula (of : Certified) (first second : Option (List ℕ)) (f : Formula) : Type 0 where
  pub circuit : Circuit
  pub numbering : Option (List ℕ)
  pub claim : ℕ
  pub gives : GivesItsCircuit of.given first circuit
  pub is_numbering : IsGivenNumbering of.given first circuit numbering
  pub is_claim : IsClaim of.choice circuit claim
  pub is_owed : IsOwedBy of.by numbering circuit claim second f

-- The second text is of a certificate, and the third of a proof in this form; they are judged so for the bad property that is claimed of what the first gives; and where the proof derives, that property never rises.
pub record IsJudgedCertificate (of : Certified) (form : ProofForm) (first second third : Option (List ℕ)) (r : JudgedCertificate) : Type 0 where
  pub given : IsGiven of.given first r.given
  pub is_claim : IsClaim of.choice r.given.circuit r.claim
  pub certified : IsCertifiedBy of.by form r.given.numbering r.given.circuit r.claim second third r.judgement
  pub holds : (line : ℕ) → r.judgement ≡ verdict.Derived line → NeverRises of.given first r.given.circuit given.gives r.claim
