use Rattle.invocation.specs.declared.tasks.Certificate.TheVariants as certificate
use Rattle.verbs.proofs.owing.certified_never_rises.Goals as goal

pub returns : goal.returns
returns c certificate.Invariant form n circuit k second third line a =
    c.certified_property_never_rises.ensures circuit k form second third line (record { formula = a.formula; is_owed = a.is_owed; judged = a.judged })
returns c certificate.Circuit form n circuit k second third line a = c.owed_formula_proved_never_rises.ensures n circuit k second a.formula form a.judged.text line a.is_owed a.judged.judged
returns c certificate.CircuitOfForm form n circuit k second third line a = c.owed_formula_over_form_proved_never_rises.ensures circuit k second a.formula form a.judged.text line a.is_owed a.judged.judged
