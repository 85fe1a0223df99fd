use Rattle.std.proofs.Common.{◌≡◌, ℕ, ◌^◌, ◌<◌, List, get_or, ap, ap₂, sym, subst, ◌∙◌}
use Rattle.base.specs.Operator.{ite_value}
use Rattle.runs.specs.declared.nodes.Operator.{Operator}
use Rattle.runs.specs.declared.nodes.Operator.TheVariants as operator
use Rattle.runs.specs.Nodes.{operator_value, OperatorFits}
use Rattle.runs.proofs.nodes.operator_word.Goals as goal

-- what an operator needs, it needs in its form
fits_as : (o form : Operator) (values : List ℕ) → o ≡ form → OperatorFits o values → OperatorFits form values
fits_as o form values e fits = subst (λ (p : Operator). OperatorFits p values) e fits

pub word_at-requires : goal.word_at-requires
word_at-requires c = (fits_as _ (operator.Ite c.in-Ite.width c.in-Ite.condition c.in-Ite.first c.in-Ite.second) c.args.values.now c.in-Ite.is c.requires).0.0

pub word_at-requires-in-Ite : goal.word_at-requires-in-Ite
word_at-requires-in-Ite c = (fits_as _ (operator.Ite c.in-Ite.width c.in-Ite.condition c.in-Ite.first c.in-Ite.second) c.args.values.now c.in-Ite.is c.requires).1.0

pub word_at-requires-in-Ite-2 : goal.word_at-requires-in-Ite-2
word_at-requires-in-Ite-2 c = (fits_as _ (operator.Ite c.in-Ite.width c.in-Ite.condition c.in-Ite.first c.in-Ite.second) c.args.values.now c.in-Ite.is c.requires).2.0

pub ite-requires-clause-condition : goal.ite-requires-clause-condition
ite-requires-clause-condition c = subst (λ (word : ℕ). word < 2 ^ 1) (sym c.word_at.ensures) (fits_as _ (operator.Ite c.in-Ite.width c.in-Ite.condition c.in-Ite.first c.in-Ite.second) c.args.values.now c.in-Ite.is c.requires).0.1

pub ite-requires-clause-first : goal.ite-requires-clause-first
ite-requires-clause-first c = subst (λ (word : ℕ). word < 2 ^ c.in-Ite.width) (sym c.word_at-in-Ite.ensures) (fits_as _ (operator.Ite c.in-Ite.width c.in-Ite.condition c.in-Ite.first c.in-Ite.second) c.args.values.now c.in-Ite.is c.requires).1.1

pub ite-requires-clause-second : goal.ite-requires-clause-second
ite-requires-clause-second c = subst (λ (word : ℕ). word < 2 ^ c.in-Ite.width) (sym c.word_at-in-Ite-2.ensures) (fits_as _ (operator.Ite c.in-Ite.width c.in-Ite.condition c.in-Ite.first c.in-Ite.second) c.args.values.now c.in-Ite.is c.requires).2.1

pub returns-in-Ite-clause-value : goal.returns-in-Ite-clause-value
returns-in-Ite-clause-value c = c.ite.ensures.value ∙ ap (λ (x : ℕ). ite_value x c.word_at-in-Ite.result c.word_at-in-Ite-2.result) c.word_at.ensures ∙ ap₂ (ite_value (get_or c.args.values.now c.in-Ite.condition 0)) c.word_at-in-Ite.ensures c.word_at-in-Ite-2.ensures ∙ sym (ap (λ (o : Operator). operator_value o c.args.values.now) c.in-Ite.is)

pub returns-in-Ite-clause-step : goal.returns-in-Ite-clause-step
returns-in-Ite-clause-step c = c.ite.ensures.step

pub single_word-requires : goal.single_word-requires
single_word-requires c = fits_as _ (operator.Single c.in-Single.single) c.args.values.now c.in-Single.is c.requires

pub returns-in-Single-clause-value : goal.returns-in-Single-clause-value
returns-in-Single-clause-value c = c.single_word.ensures.value ∙ sym (ap (λ (o : Operator). operator_value o c.args.values.now) c.in-Single.is)

pub returns-in-Single-clause-step : goal.returns-in-Single-clause-step
returns-in-Single-clause-step c = c.single_word.ensures.step

pub pair_word-requires : goal.pair_word-requires
pair_word-requires c = fits_as _ (operator.Pair c.in-Pair.pair) c.args.values.now c.in-Pair.is c.requires

pub returns-in-Pair-clause-value : goal.returns-in-Pair-clause-value
returns-in-Pair-clause-value c = c.pair_word.ensures.value ∙ sym (ap (λ (o : Operator). operator_value o c.args.values.now) c.in-Pair.is)

pub returns-in-Pair-clause-step : goal.returns-in-Pair-clause-step
returns-in-Pair-clause-step c = c.pair_word.ensures.step
