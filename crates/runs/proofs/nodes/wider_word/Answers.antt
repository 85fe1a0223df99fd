use Rattle.std.proofs.Common.{◌≡◌, ℕ, ◌^◌, ◌<◌, List, ap, sym, subst, ◌∙◌}
use Rattle.base.specs.Operator.{uext_value, sext_value}
use Rattle.runs.specs.declared.nodes.Wider.{Wider}
use Rattle.runs.specs.declared.nodes.Wider.TheVariants as wider
use Rattle.runs.specs.Nodes.{wider_value, WiderFits}
use Rattle.runs.proofs.nodes.wider_word.Goals as goal

-- what an operator needs, it needs in its form
fits_as : (o form : Wider) (values : List ℕ) → o ≡ form → WiderFits o values → WiderFits form values
fits_as o form values e fits = subst (λ (p : Wider). WiderFits p values) e fits

pub word_at-requires : goal.word_at-requires
word_at-requires c = (fits_as _ (wider.Uext c.in-Uext.width c.in-Uext.operand c.in-Uext.by) c.args.values.now c.in-Uext.is c.requires).0.0

pub uext-requires-clause-operand : goal.uext-requires-clause-operand
uext-requires-clause-operand c = subst (λ (word : ℕ). word < 2 ^ c.in-Uext.width) (sym c.word_at.ensures) (fits_as _ (wider.Uext c.in-Uext.width c.in-Uext.operand c.in-Uext.by) c.args.values.now c.in-Uext.is c.requires).0.1

pub uext-requires-clause-most : goal.uext-requires-clause-most
uext-requires-clause-most c = (fits_as _ (wider.Uext c.in-Uext.width c.in-Uext.operand c.in-Uext.by) c.args.values.now c.in-Uext.is c.requires).1

pub word_at-requires-in-Sext : goal.word_at-requires-in-Sext
word_at-requires-in-Sext c = (fits_as _ (wider.Sext c.in-Sext.width c.in-Sext.operand c.in-Sext.by) c.args.values.now c.in-Sext.is c.requires).0.0

pub sext-requires-clause-operand : goal.sext-requires-clause-operand
sext-requires-clause-operand c = subst (λ (word : ℕ). word < 2 ^ c.in-Sext.width) (sym c.word_at-in-Sext.ensures) (fits_as _ (wider.Sext c.in-Sext.width c.in-Sext.operand c.in-Sext.by) c.args.values.now c.in-Sext.is c.requires).0.1

pub sext-requires-clause-most : goal.sext-requires-clause-most
sext-requires-clause-most c = (fits_as _ (wider.Sext c.in-Sext.width c.in-Sext.operand c.in-Sext.by) c.args.values.now c.in-Sext.is c.requires).1

pub returns-in-Uext-clause-value : goal.returns-in-Uext-clause-value
returns-in-Uext-clause-value c = c.uext.ensures.value ∙ ap uext_value c.word_at.ensures ∙ sym (ap (λ (o : Wider). wider_value o c.args.values.now) c.in-Uext.is)

pub returns-in-Uext-clause-step : goal.returns-in-Uext-clause-step
returns-in-Uext-clause-step c = c.uext.ensures.step

pub returns-in-Sext-clause-value : goal.returns-in-Sext-clause-value
returns-in-Sext-clause-value c = c.sext.ensures.value ∙ ap (λ (a : ℕ). sext_value c.in-Sext.width a c.in-Sext.by) c.word_at-in-Sext.ensures ∙ sym (ap (λ (o : Wider). wider_value o c.args.values.now) c.in-Sext.is)

pub returns-in-Sext-clause-step : goal.returns-in-Sext-clause-step
returns-in-Sext-clause-step c = c.sext.ensures.step
