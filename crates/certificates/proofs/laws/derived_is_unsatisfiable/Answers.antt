use Rattle.std.proofs.Common.{sym}
use Rattle.drup.specs.declared.judgement.Judgement.TheVariants as judgement
use Rattle.drup.specs.Formula.{IsUnsatisfiable}
use Rattle.certificates.specs.declared.proof_form.ProofForm.{ProofForm}
use Rattle.certificates.specs.declared.proof_form.ProofForm.TheVariants as proof_form
use Rattle.certificates.specs.Certificates.{JudgesIn}
use Rattle.certificates.proofs.laws.derived_is_unsatisfiable.Goals as goal

pub returns : goal.returns
returns c form f text line = at form
  where
    at : (form : ProofForm) → JudgesIn form f text (judgement.Derived line) → IsUnsatisfiable f
    at proof_form.Plain j = c.derived_is_unsatisfiable.ensures f text line j
    at proof_form.Hinted j = c.derived_is_unsatisfiable-2.ensures f text line (sym j)
