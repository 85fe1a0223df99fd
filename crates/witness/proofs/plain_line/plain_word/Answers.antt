use Rattle.std.proofs.Common.{◌≡◌, ℕ, List, ◌++◌, take, drop, sym, ap, ap₂, subst, ◌∙◌, arith}
use Rattle.std.proofs.lemmas.List.{take-append-drop}
use Rattle.witness.specs.PlainLines.{BeginsName}
use Rattle.witness.proofs.PlainLineLemmas.{word_parts, word_begins}
use Rattle.witness.proofs.plain_line.plain_word.Goals as goal

pub returns-then-text-count : goal.returns-then-text-count
returns-then-text-count c word rest begins =
    let parts = word_parts c.args.width c.args.text.now word rest begins in
    omega (arith, parts.long, c.if-text-count.true, c.bits-count.ensures.same)

pub returns-in_err-word : goal.returns-in_err-word
returns-in_err-word c =
    rw c.from_residual.ensures
    (λ word rest begins.
    let parts = word_parts c.args.width c.args.text.now word rest begins in
    let front : c.split_at.result.0.now ≡ take c.args.width c.args.text.now = c.split_at.ensures.front ∙ ap (λ (n : ℕ). take n c.args.text.now) c.bits-count.ensures.same in
    cc (parts.known, front, c.in_err-word.ensures))

pub returns-in_err-rest : goal.returns-in_err-rest
returns-in_err-rest c =
    rw c.from_residual-in_err-rest.ensures
    (λ word rest begins.
    let parts = word_parts c.args.width c.args.text.now word rest begins in
    let back : c.split_at.result.1.now ≡ drop c.args.width c.args.text.now = c.split_at.ensures.back ∙ ap (λ (n : ℕ). drop n c.args.text.now) c.bits-count.ensures.same in
    c.in_err-rest.ensures rest (subst (λ (l : List ℕ). BeginsName l rest) (sym back) parts.name))

pub returns : goal.returns
returns c =
    let front = c.split_at.ensures.front in
    let back = c.split_at.ensures.back in
    let is : c.args.text.now ≡ c.split_at.result.0.now ++ c.split_at.result.1.now = sym (ap₂ (λ (l r : List ℕ). l ++ r) front back ∙ take-append-drop c.bits-count.result c.args.text.now) in
    word_begins c.args.width c.in_ok-word.word c.args.text.now c.split_at.result.0.now c.split_at.result.1.now c.in_ok-rest.rest.now is (c.split_at.ensures.front_len ∙ c.bits-count.ensures.same) c.in_ok-word.ensures c.in_ok-rest.ensures
