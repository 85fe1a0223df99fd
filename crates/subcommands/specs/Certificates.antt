-- What the commands on certificates have done.
use Rattle.std.specs.Prelude.{ℕ, Bool, true, false, List, ◌++◌, Option, Some, None, codes, decimal}
use Rattle.std.specs.Io.KnownBytes.{Appends}
use Rattle.aiger.specs.Circuit.{Circuit}
use Rattle.drup.specs.declared.judgement.Judgement.{Judgement}
use Rattle.drup.specs.declared.judgement.Judgement.TheVariants as verdict
use Rattle.drup.specs.Formula.{Formula}
use Rattle.drup.specs.FormulaTexts.{formula_text}
use Rattle.drup.specs.Printed.{proof_why_number, proof_why_name}
use Rattle.certificates.specs.declared.proof_form.ProofForm.{ProofForm}
use Rattle.invocation.specs.declared.tasks.Certified.{Certified}
use Rattle.verbs.specs.declared.certifying.JudgedCertificate.{JudgedCertificate}
use Rattle.verbs.specs.declared.given.GivenCircuit.{GivenCircuit}
use Rattle.verbs.specs.declared.given.GivenModel.{GivenModel}
use Rattle.verbs.specs.Certificates.{IsJudgedCertificate, IsOwedFormula}
use Rattle.verbs.specs.Subjects.{given_told}
use Rattle.subcommands.specs.declared.answers.Answer.{Answer}
use Rattle.subcommands.specs.declared.answers.Answer.TheVariants as answer
use Rattle.subcommands.specs.Objects.{certificate_object, circuit_names, line_names}
use Rattle.subcommands.specs.Subjects.{bad_line_said, bad_name_said, holds_said}

-- What was written is the text of the formula that a certificate owes for the bad property that is claimed of what the first text gives.
pub record WritesOwed (of : Certified) (first second before now : Option (List ℕ)) : Type 0 where
  pub formula : Formula
  pub is_owed : IsOwedFormula of first second formula
  pub appends : Appends before now (formula_text formula)

-- the line that tells how a certificate of a bad property is judged
abbrev pub verdict_line : ℕ → Judgement → List ℕ
verdict_line claim (verdict.Derived line) = codes "holds: b" ++ (decimal claim ++ codes "\n")
verdict_line claim (verdict.NotImplied line) = codes "not implied line " ++ (decimal line ++ codes "\n")
verdict_line claim (verdict.Malformed line why) = codes "malformed line " ++ (decimal line ++ (codes ": " ++ (decimal (proof_why_number why) ++ (codes " " ++ (proof_why_name why ++ codes "\n")))))
verdict_line claim verdict.NotDerived = codes "not derived\n"

-- a proof derives where an answer is that all is done, and else it does not
abbrev pub IsSoDerived : Answer → Judgement → Type 0
IsSoDerived answer.Done (verdict.Derived line) = Unit {0}
IsSoDerived answer.Done _ = ⊥
IsSoDerived answer.NotAccepted (verdict.Derived line) = ⊥
IsSoDerived answer.NotAccepted _ = Unit {0}

-- the line of a judgement, or an object of JSON
abbrev pub verdict_written : Bool → List ℕ → ℕ → Judgement → List ℕ
verdict_written false named claim j = verdict_line claim j
verdict_written true named claim j = certificate_object named claim j

-- the line that says which bad property of what was read has a number: the line of the model, or else the name in the circuit
abbrev pub said_of : Option GivenModel → Circuit → ℕ → List ℕ
said_of (Some model) c k = bad_line_said (given_told model) k
said_of None c k = bad_name_said c k

abbrev pub read_said : GivenCircuit → ℕ → List ℕ
read_said r k = said_of r.model r.circuit k

-- the names of a bad property of what was read in an object
abbrev pub names_of : Option GivenModel → Circuit → ℕ → List ℕ
names_of (Some model) c k = (line_names (given_told model)).bad k
names_of None c k = (circuit_names c).bad k

abbrev pub read_names : GivenCircuit → ℕ → List ℕ
read_names r k = names_of r.model r.circuit k

-- A certificate and a proof in this form are judged so for the bad property that is claimed of what the first text gives; what was written tells that, in a line or as an object; and all is done where the proof derives, so that the property never rises.
pub record Certifies (as_json : Bool) (of : Certified) (form : ProofForm) (first second third before now : Option (List ℕ)) (a : Answer) : Type 0 where
  pub judged : JudgedCertificate
  pub is_judged : IsJudgedCertificate of form first second third judged
  pub so : IsSoDerived a judged.judgement
  pub written : Appends before now (verdict_written as_json (read_names judged.given judged.claim) judged.claim judged.judgement)

-- a certificate is judged so, and what was told is the line that says which bad property holds; none where that is not judged
pub record CertifiesByName (as_json : Bool) (of : Certified) (form : ProofForm) (first second third before now told told' : Option (List ℕ)) (a : Answer) : Type 0 where
  pub certifies : Certifies as_json of form first second third before now a
  pub subject : Appends told told' (holds_said certifies.judged.judgement (read_said certifies.judged.given certifies.judged.claim))

-- with names or without
abbrev pub CertifiesWith : Bool → Bool → Certified → ProofForm → Option (List ℕ) → Option (List ℕ) → Option (List ℕ) → Option (List ℕ) → Option (List ℕ) → Option (List ℕ) → Option (List ℕ) → Answer → Type 0
CertifiesWith false as_json of form first second third before now told told' a = Certifies as_json of form first second third before now a
CertifiesWith true as_json of form first second third before now told told' a = CertifiesByName as_json of form first second third before now told told' a
