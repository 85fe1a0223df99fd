use Rattle.std.proofs.Common.{◌≡◌, ℕ, ◌^◌, ◌<◌, List, ap, ap₂, sym, subst, ◌∙◌}
use Rattle.base.specs.Operator.{binary_value, concat_value}
use Rattle.runs.specs.declared.nodes.Pair.{Pair}
use Rattle.runs.specs.declared.nodes.Pair.TheVariants as pair
use Rattle.runs.specs.Nodes.{pair_value, PairHasWords}
use Rattle.runs.proofs.nodes.pair_word.Goals as goal

-- what an operator needs, it needs in its form
fits_as : (o form : Pair) (values : List ℕ) → o ≡ form → PairHasWords o values → PairHasWords form values
fits_as o form values e fits = subst (λ (p : Pair). PairHasWords p values) e fits

pub word_at-requires : goal.word_at-requires
word_at-requires c = (fits_as _ (pair.Binary c.in-Binary.operator c.in-Binary.width c.in-Binary.left c.in-Binary.right) c.args.values.now c.in-Binary.is c.requires).0.0

pub word_at-requires-in-Binary : goal.word_at-requires-in-Binary
word_at-requires-in-Binary c = (fits_as _ (pair.Binary c.in-Binary.operator c.in-Binary.width c.in-Binary.left c.in-Binary.right) c.args.values.now c.in-Binary.is c.requires).1.0

pub binary-requires-clause-left : goal.binary-requires-clause-left
binary-requires-clause-left c = subst (λ (word : ℕ). word < 2 ^ c.in-Binary.width) (sym c.word_at.ensures) (fits_as _ (pair.Binary c.in-Binary.operator c.in-Binary.width c.in-Binary.left c.in-Binary.right) c.args.values.now c.in-Binary.is c.requires).0.1

pub binary-requires-clause-right : goal.binary-requires-clause-right
binary-requires-clause-right c = subst (λ (word : ℕ). word < 2 ^ c.in-Binary.width) (sym c.word_at-in-Binary.ensures) (fits_as _ (pair.Binary c.in-Binary.operator c.in-Binary.width c.in-Binary.left c.in-Binary.right) c.args.values.now c.in-Binary.is c.requires).1.1

pub word_at-requires-in-Concat : goal.word_at-requires-in-Concat
word_at-requires-in-Concat c = (fits_as _ (pair.Concat c.in-Concat.high_width c.in-Concat.high c.in-Concat.low_width c.in-Concat.low) c.args.values.now c.in-Concat.is c.requires).0.0

pub word_at-requires-in-Concat-2 : goal.word_at-requires-in-Concat-2
word_at-requires-in-Concat-2 c = (fits_as _ (pair.Concat c.in-Concat.high_width c.in-Concat.high c.in-Concat.low_width c.in-Concat.low) c.args.values.now c.in-Concat.is c.requires).1.0

pub concat-requires-clause-high : goal.concat-requires-clause-high
concat-requires-clause-high c = subst (λ (word : ℕ). word < 2 ^ c.in-Concat.high_width) (sym c.word_at-in-Concat.ensures) (fits_as _ (pair.Concat c.in-Concat.high_width c.in-Concat.high c.in-Concat.low_width c.in-Concat.low) c.args.values.now c.in-Concat.is c.requires).0.1

pub concat-requires-clause-low : goal.concat-requires-clause-low
concat-requires-clause-low c = subst (λ (word : ℕ). word < 2 ^ c.in-Concat.low_width) (sym c.word_at-in-Concat-2.ensures) (fits_as _ (pair.Concat c.in-Concat.high_width c.in-Concat.high c.in-Concat.low_width c.in-Concat.low) c.args.values.now c.in-Concat.is c.requires).1.1

pub concat-requires-clause-most : goal.concat-requires-clause-most
concat-requires-clause-most c = (fits_as _ (pair.Concat c.in-Concat.high_width c.in-Concat.high c.in-Concat.low_width c.in-Concat.low) c.args.values.now c.in-Concat.is c.requires).2

pub returns-in-Binary-clause-value : goal.returns-in-Binary-clause-value
returns-in-Binary-clause-value c = c.binary.ensures.value ∙ ap₂ (binary_value c.in-Binary.operator c.in-Binary.width) c.word_at.ensures c.word_at-in-Binary.ensures ∙ sym (ap (λ (o : Pair). pair_value o c.args.values.now) c.in-Binary.is)

pub returns-in-Binary-clause-step : goal.returns-in-Binary-clause-step
returns-in-Binary-clause-step c = c.binary.ensures.step

pub returns-in-Concat-clause-value : goal.returns-in-Concat-clause-value
returns-in-Concat-clause-value c = c.concat.ensures.value ∙ ap₂ (λ (a b : ℕ). concat_value a c.in-Concat.low_width b) c.word_at-in-Concat.ensures c.word_at-in-Concat-2.ensures ∙ sym (ap (λ (o : Pair). pair_value o c.args.values.now) c.in-Concat.is)

pub returns-in-Concat-clause-step : goal.returns-in-Concat-clause-step
returns-in-Concat-clause-step c = c.concat.ensures.step
