use Rattle.std.proofs.Common.{◌≡◌, sym, ◌∙◌}
use Rattle.certificates.specs.declared.proof_form.ProofForm.{ProofForm}
use Rattle.certificates.specs.declared.proof_form.ProofForm.TheVariants as proof_form
use Rattle.certificates.specs.Certificates.{JudgesIn}
use Rattle.certificates.proofs.laws.one_judgement.Goals as goal

pub returns : goal.returns
returns c form f text i j = at form
  where
    at : (form : ProofForm) → JudgesIn form f text i → JudgesIn form f text j → i ≡ j
    at proof_form.Plain a b = c.one_judgement.ensures f text i j a b
    at proof_form.Hinted a b = a ∙ sym b
