use Rattle.std.proofs.Common.{◌≡◌, ℕ, List, ◌∷◌, ◌++◌, Option, Some, Result, Err, MatchResult, ap, sym, subst, ◌∙◌}
use Rattle.base.specs.Lines.{HasNone}
use Rattle.witness.specs.declared.why.Why.{Why}
use Rattle.witness.specs.Admits.{cut_at_space, value_of}
use Rattle.witness.specs.WordValues.{word_with, word_behind}
use Rattle.witness.proofs.WordFieldLemmas.{cut_alone, cut_once}
use Rattle.spread.proofs.ValueLemmas.{with_nothing}
use Rattle.spread.specs.Words.{HasDigits}
use Rattle.spread.proofs.assigned.digits_in.Goals as goal

pub returns-in-None : goal.returns-in-None
returns-in-None c = ap (λ (l : List ℕ × Option (List ℕ)). word_behind c.args.width l.1) (cut_alone c.args.line.now c.in-None.ensures)

behind_is : (width : ℕ) (line token behind : List ℕ) → line ≡ token ++ 32 ∷ behind → HasNone 32 token → word_behind width (cut_at_space line).1 ≡ word_with (cut_at_space behind).1 (value_of width (cut_at_space behind).0)
behind_is width line token behind is none = ap (λ (l : List ℕ × Option (List ℕ)). word_behind width l.1) (cut_once line token behind is none)

pub returns-in-None-cut_at : goal.returns-in-None-cut_at
returns-in-None-cut_at c =
    let width : ℕ = c.args.width in
    let behind : List ℕ = c.in-Some.behind.now in
    let read : word_behind width (cut_at_space c.args.line.now).1 ≡ value_of width behind =
    behind_is width c.args.line.now c.in-Some.field-0-0.now behind c.in-Some.ensures.0 c.in-Some.ensures.1
    ∙ (ap (λ (l : List ℕ × Option (List ℕ)). word_with l.1 (value_of width l.0)) (cut_alone behind c.in-None-cut_at.ensures) ∙ with_nothing (value_of width behind)) in
    subst (λ (r : Result ℕ Why). MatchResult c.value.result (λ digits. HasDigits width r digits.now) (λ w. r ≡ Err w)) (sym read) c.value.ensures

pub returns-in-Some-cut_at : goal.returns-in-Some-cut_at
returns-in-Some-cut_at c =
    let width : ℕ = c.args.width in
    let behind : List ℕ = c.in-Some.behind.now in
    let bytes : List ℕ = c.in-Some-cut_at.bytes.now in
    let name : List ℕ = c.in-Some-cut_at.name.now in
    let read : word_behind width (cut_at_space c.args.line.now).1 ≡ word_with (Some name) (value_of width bytes) =
    behind_is width c.args.line.now c.in-Some.field-0-0.now behind c.in-Some.ensures.0 c.in-Some.ensures.1
    ∙ ap (λ (l : List ℕ × Option (List ℕ)). word_with l.1 (value_of width l.0)) (cut_once behind bytes name c.in-Some-cut_at.ensures.0 c.in-Some-cut_at.ensures.1) in
    subst (λ (r : Result ℕ Why). MatchResult c.named.result (λ digits. HasDigits width r digits.now) (λ w. r ≡ Err w)) (sym read) c.named.ensures
