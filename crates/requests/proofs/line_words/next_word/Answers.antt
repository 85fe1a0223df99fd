use Rattle.std.proofs.Common.{◌≡◌, ℕ, List, sym, ◌∙◌}
use Rattle.std.specs.List.{list_any}
use Rattle.bstr.specs.Bytes.{is_in}
use Rattle.base.proofs.CutLemmas.{cut_at_first, none_at_all}
use Rattle.btor2text.specs.Tokens.{is_blank}
use Rattle.btor2text.proofs.TokenLemmas.{blanks, is_in-blanks, tokens-to_blank, tokens-whole}
use Rattle.requests.proofs.line_words.next_word.Goals as goal

blank_among : (bytes : List ℕ) → list_any is_blank bytes ≡ list_any (is_in blanks) bytes
blank_among bytes = λ i. list_any (λ b. sym (is_in-blanks b) i) bytes

pub returns-in-None : goal.returns-in-None
returns-in-None c =
    let rest = c.in_ok-rest.rest.now in
    let none = blank_among rest ∙ none_at_all (is_in blanks) rest c.in-None.ensures in
    rw (c.split_at.ensures.front, c.split_at.ensures.back) (sym c.in_ok-rest.ensures.0 ∙ tokens-whole rest none c.in_ok-rest.ensures.1)

pub returns-in-Some : goal.returns-in-Some
returns-in-Some c =
    let rest = c.in_ok-rest.rest.now in
    let cut = cut_at_first (is_in blanks) rest c.in-Some.at c.in-Some.ensures in
    let token = tokens-to_blank rest c.in-Some.at cut.inside (blank_among _ ∙ cut.before) (sym (is_in-blanks _) ∙ cut.passes) c.in_ok-rest.ensures.1 in
    rw (c.split_at-in-Some.ensures.front, c.split_at-in-Some-2.ensures.back) (sym c.in_ok-rest.ensures.0 ∙ token)
