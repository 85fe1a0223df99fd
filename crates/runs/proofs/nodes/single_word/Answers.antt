use Rattle.std.proofs.Common.{◌≡◌, ℕ, ◌^◌, ◌<◌, List, ap, sym, subst, ◌∙◌}
use Rattle.base.specs.Operator.{unary_value, slice_value}
use Rattle.runs.specs.declared.nodes.Single.{Single}
use Rattle.runs.specs.declared.nodes.Single.TheVariants as single
use Rattle.runs.specs.Nodes.{single_value, SingleFits}
use Rattle.runs.proofs.nodes.single_word.Goals as goal

-- what an operator needs, it needs in its form
fits_as : (o form : Single) (values : List ℕ) → o ≡ form → SingleFits o values → SingleFits form values
fits_as o form values e fits = subst (λ (p : Single). SingleFits p values) e fits

pub word_at-requires-in-Slice : goal.word_at-requires-in-Slice
word_at-requires-in-Slice c = (fits_as _ (single.Slice c.in-Slice.width c.in-Slice.operand c.in-Slice.upper c.in-Slice.lower) c.args.values.now c.in-Slice.is c.requires).0.0

pub slice-requires-clause-operand : goal.slice-requires-clause-operand
slice-requires-clause-operand c = subst (λ (word : ℕ). word < 2 ^ c.in-Slice.width) (sym c.word_at-in-Slice.ensures) (fits_as _ (single.Slice c.in-Slice.width c.in-Slice.operand c.in-Slice.upper c.in-Slice.lower) c.args.values.now c.in-Slice.is c.requires).0.1

pub slice-requires-clause-order : goal.slice-requires-clause-order
slice-requires-clause-order c = (fits_as _ (single.Slice c.in-Slice.width c.in-Slice.operand c.in-Slice.upper c.in-Slice.lower) c.args.values.now c.in-Slice.is c.requires).1

pub slice-requires-clause-inside : goal.slice-requires-clause-inside
slice-requires-clause-inside c = (fits_as _ (single.Slice c.in-Slice.width c.in-Slice.operand c.in-Slice.upper c.in-Slice.lower) c.args.values.now c.in-Slice.is c.requires).2

pub word_at-requires : goal.word_at-requires
word_at-requires c = (fits_as _ (single.Unary c.in-Unary.operator c.in-Unary.width c.in-Unary.operand) c.args.values.now c.in-Unary.is c.requires).0

pub unary-requires : goal.unary-requires
unary-requires c = subst (λ (word : ℕ). word < 2 ^ c.in-Unary.width) (sym c.word_at.ensures) (fits_as _ (single.Unary c.in-Unary.operator c.in-Unary.width c.in-Unary.operand) c.args.values.now c.in-Unary.is c.requires).1

pub returns-in-Slice-clause-value : goal.returns-in-Slice-clause-value
returns-in-Slice-clause-value c = c.slice.ensures.value ∙ ap (λ (a : ℕ). slice_value a c.in-Slice.upper c.in-Slice.lower) c.word_at-in-Slice.ensures ∙ sym (ap (λ (o : Single). single_value o c.args.values.now) c.in-Slice.is)

pub returns-in-Slice-clause-step : goal.returns-in-Slice-clause-step
returns-in-Slice-clause-step c = c.slice.ensures.step

pub returns-in-Unary-clause-value : goal.returns-in-Unary-clause-value
returns-in-Unary-clause-value c = c.unary.ensures.value ∙ ap (unary_value c.in-Unary.operator c.in-Unary.width) c.word_at.ensures ∙ sym (ap (λ (o : Single). single_value o c.args.values.now) c.in-Unary.is)

pub returns-in-Unary-clause-step : goal.returns-in-Unary-clause-step
returns-in-Unary-clause-step c = c.unary.ensures.step

pub wider_word-requires : goal.wider_word-requires
wider_word-requires c = fits_as _ (single.Wider c.in-Wider.wider) c.args.values.now c.in-Wider.is c.requires

pub returns-in-Wider-clause-value : goal.returns-in-Wider-clause-value
returns-in-Wider-clause-value c = c.wider_word.ensures.value ∙ sym (ap (λ (o : Single). single_value o c.args.values.now) c.in-Wider.is)

pub returns-in-Wider-clause-step : goal.returns-in-Wider-clause-step
returns-in-Wider-clause-step c = c.wider_word.ensures.step
