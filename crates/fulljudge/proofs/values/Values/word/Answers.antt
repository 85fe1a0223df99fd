use Rattle.std.proofs.Common.{◌≡◌, ℕ, ◌++◌, List, [], Option, Some, None, MatchOption, decimal, arith, ap, sym, subst, ◌∙◌}
use Rattle.base.specs.Decimals.{number_of}
use Rattle.witness.specs.Admits.{cut_at_space}
use Rattle.fullmodel.specs.Lines.{sort_value}
use Rattle.fulljudge.specs.Lines.{value_line, word_line}
use Rattle.fulljudge.proofs.WordLineLemmas.{no_number, by_number}
use Rattle.fulljudge.proofs.TextLemmas.{first_within}
use Rattle.fulljudge.proofs.values.Values.word.Goals as goal

pub returns-in_default : goal.returns-in_default
returns-in_default c = no_number c.args.self.now c.args.line.now (ap number_of (sym c.front_and_tail.ensures.front) ∙ sym c.in_default.ensures)

pub word_of_value-requires : goal.word_of_value-requires
word_of_value-requires c =
    let found = c.in-Some-value.ensures.value in
    omega (arith, first_within c.args.self.now c.in-Some.index (sort_value c.in-Some-value.value.sort) found.0, found.1, c.value.ensures.few)

pub returns-in-Some-value : goal.returns-in-Some-value
returns-in-Some-value c =
    let value = c.in-Some-value.value in
    let found = c.in-Some-value.ensures.value in
    let rest : Option (List ℕ) = (cut_at_space c.args.line.now).1 in
    let is : word_line c.args.self.now c.args.line.now ≡ value_line value.first (Some (sort_value value.sort)) rest =
    by_number c.args.self.now c.args.line.now c.in-Some.index (Some (sort_value value.sort)) (ap number_of (sym c.front_and_tail.ensures.front) ∙ sym c.in-Some.ensures) found.0 ∙ ap (λ (n : ℕ). value_line n (Some (sort_value value.sort)) rest) (sym found.1) in
    subst (λ (l : List ℕ). MatchOption c.word_of_value.result (l ≡ []) (λ w. l ≡ decimal w.0 ++ w.1.now)) (sym is) (c.word_of_value.ensures rest c.front_and_tail.ensures.tail)

pub returns-in-None : goal.returns-in-None
returns-in-None c = by_number c.args.self.now c.args.line.now c.in-Some.index None (ap number_of (sym c.front_and_tail.ensures.front) ∙ sym c.in-Some.ensures) c.in-None.ensures.value
