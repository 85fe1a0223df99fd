use Rattle.std.proofs.Common.{◌≡◌, sym, ap, ◌∙◌, decimal, rules, arith}
use Rattle.std.specs.Fmt.{digits}
use Rattle.std.proofs.lemmas.Bool.{false≢true}
use Rattle.std.proofs.lemmas.Slice.Eq.{bytes_eq-Decides}
use Rattle.base.specs.Decimals.{number_of}
use Rattle.base.proofs.DecimalLemmas.{number_is_decimal, number_of-decimal}
use Rattle.btor2text.proofs.PlaceLemmas.{is_word, some_is}
use Rattle.vectors.proofs.lines.number.Goals as goal

pub returns-then-value-lt18446744073709551615-clause-written : goal.returns-then-value-lt18446744073709551615-clause-written
returns-then-value-lt18446744073709551615-clause-written c = number_is_decimal c.args.token.now c.in-Some.value (search rules) (search rules)

pub returns-then-eq-clause-written : goal.returns-then-eq-clause-written
unfolding digits
returns-then-eq-clause-written c = is_word _ _ (sym c.if-eq.ensures)

pub returns-else-eq-clause-none : goal.returns-else-eq-clause-none
unfolding digits
returns-else-eq-clause-none c = λ r n lt e.
    let same : c.in-Some.value ≡ n = some_is _ _ (c.in-Some.ensures ∙ (ap number_of e ∙ number_of-decimal n lt)) in
    let is : n ≡ 18446744073709551615 = omega arith in
    false≢true (c.if-eq.ensures ∙ (bytes_eq-Decides _ _).1 (e ∙ ap decimal is))

pub returns-in-None-clause-none : goal.returns-in-None-clause-none
returns-in-None-clause-none c = λ r n lt e. let h = number_of-decimal n lt in cc
