-- What a command has done that told how a certificate is judged.
use Rattle.std.proofs.Common.{ℕ, Bool, true, false, List, Option, Result, Ok, Err, IfOk, OnOk}
use Rattle.std.specs.Io.KnownBytes.{Appends}
use Rattle.certificates.specs.declared.proof_form.ProofForm.{ProofForm}
use Rattle.invocation.specs.declared.tasks.Certified.{Certified}
use Rattle.verbs.specs.declared.certifying.JudgedCertificate.{JudgedCertificate}
use Rattle.verbs.specs.declared.refusals.Refusal.{Refusal}
use Rattle.verbs.specs.Certificates.{IsJudgedCertificate}
use Rattle.subcommands.specs.declared.answers.Answer.{Answer}
use Rattle.subcommands.specs.Certificates.{Certifies, CertifiesWith, IsSoDerived, read_names, read_said, verdict_written}
use Rattle.subcommands.specs.Subjects.{holds_said, where_named}

-- with names or without
pub certified : (named as_json : Bool) (r : Result Answer Refusal) (of : Certified) (form : ProofForm) (first second third before now told told' : Option (List ℕ)) (judged : JudgedCertificate)
    → IsJudgedCertificate of form first second third judged
    → OnOk r (Appends before now (verdict_written as_json (read_names judged.given judged.claim) judged.claim judged.judgement))
    → OnOk r (Appends told told' (where_named named (holds_said judged.judgement (read_said judged.given judged.claim)))) → IfOk r (λ a. IsSoDerived a judged.judgement)
    → IfOk r (CertifiesWith named as_json of form first second third before now told told')
certified named as_json (Ok a) of form first second third before now told told' judged is line said so = with_names named said
  where
    certifies : Certifies as_json of form first second third before now a
    certifies = record { judged = judged; is_judged = is; so = so; written = line }

    with_names : (named : Bool) → Appends told told' (where_named named (holds_said judged.judgement (read_said judged.given judged.claim))) → CertifiesWith named as_json of form first second third before now told told' a
    with_names false said = certifies
    with_names true said = record { certifies = certifies; subject = said }
certified named as_json (Err e) of form first second third before now told told' judged is line said so = so
