-- Certificates of a bad property of a circuit: the text of an invariant, and that of a proof over the formula that the invariant owes. Which formula that is, how
-- a certificate is judged, and why there is no formula or no judgement.
use Rattle.std.specs.Prelude.{◌≡◌, ◌⊎◌, ℕ, true, List, Option, None, Some, IfSome, Result, Err, length}
use Rattle.std.specs.List.{list_all}
use Rattle.base.specs.Device.{HasRisen}
use Rattle.aiger.specs.Circuit.{Circuit}
use Rattle.engine_form.specs.EngineForm.{IsEngineFormOf}
use Rattle.engine_form.specs.Refusal.{engine_refusal, AnswersForm}
use Rattle.drup.specs.declared.judgement.Judgement.{Judgement}
use Rattle.drup.specs.Formula.{Formula}
use Rattle.drup.specs.Judgements.{JudgesProof}
use Rattle.lrat.specs.LratJudgements.{judge_lrat}
use Rattle.certificates.specs.declared.proof_form.ProofForm.{ProofForm}
use Rattle.certificates.specs.declared.proof_form.ProofForm.TheVariants as proof_form
use Rattle.certificates.specs.declared.why.InvariantWhy.{InvariantWhy}
use Rattle.certificates.specs.declared.why.InvariantWhy.TheVariants as why
use Rattle.certificates.specs.declared.claim_fault.ClaimFault.{ClaimFault}
use Rattle.certificates.specs.declared.claim_fault.ClaimFault.TheVariants as claim
use Rattle.certificates.specs.declared.certificate_fault.CertificateFault.{CertificateFault}
use Rattle.certificates.specs.declared.certificate_fault.CertificateFault.TheVariants as certificate
use Rattle.certificates.specs.Invariants.{AreOver, asks_one}
use Rattle.certificates.specs.Obligation.{obligation}
use Rattle.certificates.specs.Reading.{ReadsCubes}
use Rattle.certificates.specs.Refusal.{obligation_refusal, RefusesObligation}
use Rattle.certificates.specs.Texts.{SaysCubes}

-- ---- what is judged

-- a circuit is the engine form of another one with this bad property alone, against which nothing speaks
pub record IsFormFor (c : Circuit) (k : ℕ) (d : Circuit) : Type 0 where
  pub is_form : IsEngineFormOf c (Some k) d
  pub accepted : engine_refusal c (Some k) ≡ None

-- cubes are those that the text of an invariant, where it is known, says over the latches of a circuit; they speak of these alone, and each asks that one be 1
pub record AreCubes (d : Circuit) (invariant : Option (List ℕ)) (cubes : List (List ℕ)) : Type 0 where
  pub over : AreOver (length d.latches) cubes
  pub ask : list_all asks_one cubes ≡ true
  pub says : IfSome invariant (λ text. SaysCubes (length d.latches) text cubes)

-- a formula is the obligation of the text of an invariant over a circuit
pub record IsOwedOver (d : Circuit) (invariant : Option (List ℕ)) (f : Formula) : Type 0 where
  pub cubes : List (List ℕ)
  pub are_cubes : AreCubes d invariant cubes
  pub few : obligation_refusal d cubes ≡ None
  pub is_obligation : f ≡ obligation d cubes

-- a formula is what the text of an invariant owes for a bad property of a circuit: its obligation over the engine form of this property
pub record IsOwed (c : Circuit) (k : ℕ) (invariant : Option (List ℕ)) (f : Formula) : Type 0 where
  pub form : Circuit
  pub is_form : IsFormFor c k form
  pub owed : IsOwedOver form invariant f

-- a text is judged so as a proof in a form over a formula: one without hints by unit propagation, one with hints by these alone
abbrev pub JudgesIn : ProofForm → Formula → List ℕ → Judgement → Type 0
JudgesIn proof_form.Plain f text j = JudgesProof f text j
JudgesIn proof_form.Hinted f text j = j ≡ judge_lrat f text

-- a text, which is that of a source where the source tells its bytes, is judged so as a proof in a form over a formula
pub record IsJudgedProof (form : ProofForm) (f : Formula) (proof : Option (List ℕ)) (j : Judgement) : Type 0 where
  pub text : List ℕ
  pub is_text : IfSome proof (λ all. all ≡ text)
  pub judged : JudgesIn form f text j

-- a certificate of a bad property of a circuit, with a proof in a form, is judged so: its proof is, over the formula that its invariant owes
pub record IsCertified (c : Circuit) (k : ℕ) (form : ProofForm) (invariant proof : Option (List ℕ)) (j : Judgement) : Type 0 where
  pub formula : Formula
  pub is_owed : IsOwed c k invariant formula
  pub judged : IsJudgedProof form formula proof j

-- ---- why there is no formula

-- why an invariant owes none over a circuit: its text is not read, or there is no obligation of its cubes
abbrev pub OwesNoneOver : Circuit → Option (List ℕ) → ClaimFault → Type 0
OwesNoneOver d invariant (claim.Form e) = ⊥
OwesNoneOver d invariant (claim.Invariant e) = (e.why ≡ why.NoMemory) ⊎ ((e ≡ record { line = 0; why = why.Device }) ⊎ ReadsCubes (length d.latches) invariant (Err e))
OwesNoneOver d invariant (claim.Obligation e) = (cubes : List (List ℕ)) × AreCubes d invariant cubes × RefusesObligation {T = Unit {0}} (Err e) (obligation_refusal d cubes)

-- the circuit has the engine form, and over that the invariant owes none
pub record OwesNoneOverForm (c : Circuit) (k : ℕ) (invariant : Option (List ℕ)) (e : ClaimFault) : Type 0 where
  pub form : Circuit
  pub is_form : IsFormFor c k form
  pub owes_none : OwesNoneOver form invariant e

-- why an invariant owes none for a bad property of a circuit: the circuit has no engine form with this property, or over that the invariant owes none
abbrev pub OwesNone : Circuit → ℕ → Option (List ℕ) → ClaimFault → Type 0
OwesNone c k invariant (claim.Form e) = AnswersForm {T = Unit {0}} (Err e) (engine_refusal c (Some k))
OwesNone c k invariant e = OwesNoneOverForm c k invariant e

-- an invariant's count of failures, before and after a reading that ends so: one more where the source failed, and else as before
abbrev pub CountsInvariantWhy : InvariantWhy → ℕ → ℕ → Type 0
CountsInvariantWhy why.Device old new = HasRisen old new
CountsInvariantWhy _ old new = new ≡ old

abbrev pub CountsClaim : {T : Type 0} → Result T ClaimFault → ℕ → ℕ → Type 0
CountsClaim (Err (claim.Invariant e)) old new = CountsInvariantWhy e.why old new
CountsClaim _ old new = new ≡ old

-- something is so where there is no engine form
abbrev pub WithoutForm : {T : Type 0} → Result T ClaimFault → Type 0 → Type 0
WithoutForm (Err (claim.Form e)) so = so
WithoutForm _ so = Unit {0}

-- ---- why there is no judgement

-- there is a formula that the invariant owes
pub record OwesSome (c : Circuit) (k : ℕ) (invariant : Option (List ℕ)) : Type 0 where
  pub formula : Formula
  pub is_owed : IsOwed c k invariant formula

-- why a certificate is not judged: its invariant owes no formula; or it owes one, and its proof is not judged, since a growth was refused or the source failed
abbrev pub IsNotCertified : Circuit → ℕ → Option (List ℕ) → CertificateFault → Type 0
IsNotCertified c k invariant (certificate.Claim e) = OwesNone c k invariant e
IsNotCertified c k invariant (certificate.Judge e) = OwesSome c k invariant
IsNotCertified c k invariant certificate.Device = OwesSome c k invariant

-- a fault is none of the invariant
abbrev pub IsOfProof : CertificateFault → Type 0
IsOfProof (certificate.Claim e) = ⊥
IsOfProof _ = Unit {0}

-- the counts of failures of the invariant's source and the proof's, before and after: one more of the one that failed, and else as before
abbrev pub CountsCertificate : {T : Type 0} → Result T CertificateFault → ℕ → ℕ → ℕ → ℕ → Type 0
CountsCertificate (Err (certificate.Claim e)) old new before after = CountsClaim {T = Unit {0}} (Err e) old new × (after ≡ before)
CountsCertificate (Err certificate.Device) old new before after = (new ≡ old) × HasRisen before after
CountsCertificate _ old new before after = (new ≡ old) × (after ≡ before)

-- something is so where there is no formula, and something where there is no engine form
abbrev pub WithoutFormula : {T : Type 0} → Result T CertificateFault → Type 0 → Type 0
WithoutFormula (Err (certificate.Claim e)) so = so
WithoutFormula _ so = Unit {0}

abbrev pub WithoutFormOf : {T : Type 0} → Result T CertificateFault → Type 0 → Type 0
WithoutFormOf (Err (certificate.Claim (claim.Form e))) so = so
WithoutFormOf _ so = Unit {0}
