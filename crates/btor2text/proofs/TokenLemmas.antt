-- Which tokens a line has, from its front.
use Rattle.std.proofs.Common.{◌≡◌, ℕ, zero, suc, ◌+◌, ◌<◌, true, false, not, ◌||◌, ◌==◌, cond, List, [], ◌∷◌, ◌++◌, length, get_or, take, drop, filter, refl, sym, ap, subst, ◌∙◌, arith}
use Rattle.std.specs.List.{list_any}
use Rattle.std.proofs.lemmas.Bool.{or_parts, not-true, not-false, both_ways, or_left}
use Rattle.std.proofs.lemmas.Bool.Decides.{nat_tests}
use Rattle.std.proofs.lemmas.List.{drop_more, take_all, drop_all, take-append-drop}
use Rattle.bstr.specs.Bytes.{is_in, not_in}
use Rattle.base.specs.Lines.{to_first}
use Rattle.base.specs.Decimals.{is_nothing}
use Rattle.btor2text.specs.Tokens.{is_blank, pieces, before_comment, tokens, begins_blank, begins_token}

-- the blanks as a set of bytes
abbrev pub blanks : List ℕ
blanks = 32 ∷ 9 ∷ []

pub is_in-blanks : (b : ℕ) → is_in blanks b ≡ is_blank b
unfolding is_in
is_in-blanks b = grind (arith, nat_tests)

pub is_blank_not : (b : ℕ) → not_in blanks b ≡ true → is_blank b ≡ false
is_blank_not b h = sym (is_in-blanks b) ∙ not-true (is_in blanks b) h

is_blank_among : (b : ℕ) → not_in blanks b ≡ false → is_blank b ≡ true
is_blank_among b h = sym (is_in-blanks b) ∙ not-false (is_in blanks b) h

-- a blank in front changes no token
tokens-blank : (b : ℕ) (bs : List ℕ) → is_blank b ≡ true → tokens (b ∷ bs) ≡ tokens bs
tokens-blank b bs h = rw h refl

pub tokens-drop : (n : ℕ) (line : List ℕ) → list_any (not_in blanks) (take n line) ≡ false → tokens (drop n line) ≡ tokens line
tokens-drop zero line h = refl
tokens-drop (suc n) [] h = refl
tokens-drop (suc n) (b ∷ bs) h =
    let parts = or_parts (not_in blanks b) (list_any (not_in blanks) (take n bs)) h in
    tokens-drop n bs parts.1 ∙ sym (tokens-blank b bs (is_blank_among b parts.0))

pub all_blanks : (line : List ℕ) → list_any (not_in blanks) line ≡ false → tokens (drop (length line) line) ≡ tokens line
all_blanks line h = tokens-drop (length line) line (rw (take_all (length line) line (omega arith)) h)

pub begins_blank-drop : (n : ℕ) (line : List ℕ) → n < length line → is_blank (get_or line n 0) ≡ false → begins_blank (drop n line) ≡ false
begins_blank-drop n line lt h = rw (drop_more line n 0 lt) h

-- a word without blanks is one piece
pieces-word : (word : List ℕ) → list_any is_blank word ≡ false → pieces word ≡ word ∷ []
pieces-word [] h = refl
pieces-word (c ∷ cs) h =
    let parts = or_parts (is_blank c) (list_any is_blank cs) h in
    rw (parts.0, pieces-word cs parts.1) refl

pieces-word_blank : (word : List ℕ) (b : ℕ) (rest : List ℕ) → list_any is_blank word ≡ false → is_blank b ≡ true → pieces (word ++ b ∷ rest) ≡ word ∷ pieces rest
pieces-word_blank [] b rest h blank = rw blank refl
pieces-word_blank (c ∷ cs) b rest h blank =
    let parts = or_parts (is_blank c) (list_any is_blank cs) h in
    rw (parts.0, pieces-word_blank cs b rest parts.1 blank) refl

abbrev tokens_of : List (List ℕ) → List (List ℕ)
tokens_of ps = before_comment (filter (λ p. not (is_nothing p)) ps)

-- a word that opens no comment is a token
word_is_token : (c : ℕ) (cs : List ℕ) (ps : List (List ℕ)) → not (is_blank c || (c == 59)) ≡ true → tokens_of ((c ∷ cs) ∷ ps) ≡ (c ∷ cs) ∷ tokens_of ps
word_is_token c cs ps h = let parts = or_parts (is_blank c) (c == 59) (not-true _ h) in rw parts.1 refl

pub tokens-word_blank : (word : List ℕ) (b : ℕ) (rest : List ℕ) → list_any is_blank word ≡ false → is_blank b ≡ true → begins_token (word ++ b ∷ rest) ≡ true → tokens (word ++ b ∷ rest) ≡ word ∷ tokens rest
tokens-word_blank [] b rest h blank begins = absurd (both_ways (is_blank b || (b == 59)) (not-true _ begins) (or_left _ _ blank))
tokens-word_blank (c ∷ cs) b rest h blank begins = ap tokens_of (pieces-word_blank (c ∷ cs) b rest h blank) ∙ word_is_token c cs (pieces rest) begins

-- a line up to its first blank is a token, where it begins one
pub tokens-to_blank : (line : List ℕ) (at : ℕ) → at < length line → list_any is_blank (take at line) ≡ false → is_blank (get_or line at 0) ≡ true → begins_token line ≡ true → tokens line ≡ take at line ∷ tokens (drop (at + 1) line)
tokens-to_blank line at inside none blank begins =
    let parts : line ≡ take at line ++ get_or line at 0 ∷ drop (at + 1) line = sym (take-append-drop at line) ∙ ap (λ (rest : List ℕ). take at line ++ rest) (drop_more line at 0 inside) in
    ap tokens parts ∙ tokens-word_blank (take at line) (get_or line at 0) (drop (at + 1) line) none blank (subst (λ l. begins_token l ≡ true) parts begins)

pub tokens-word : (word : List ℕ) → list_any is_blank word ≡ false → begins_token word ≡ true → tokens word ≡ word ∷ []
tokens-word [] h begins = absurd cc
tokens-word (c ∷ cs) h begins = ap tokens_of (pieces-word (c ∷ cs) h) ∙ word_is_token c cs [] begins

pub tokens-whole : (word : List ℕ) → list_any is_blank word ≡ false → begins_token word ≡ true → tokens word ≡ take (length word) word ∷ tokens (drop (length word) word)
tokens-whole word h begins = rw (take_all (length word) word (omega arith), drop_all (length word) word (omega arith)) (tokens-word word h begins)

-- a comment has no token
pieces_are_some : (bytes : List ℕ) → (p : List ℕ) × ((ps : List (List ℕ)) × (pieces bytes ≡ p ∷ ps))
pieces_are_some [] = ([], ([], refl))
pieces_are_some (b ∷ bs) =
    let rest = pieces_are_some bs in
    elim (is_blank b) as (λ t. (p : List ℕ) × ((ps : List (List ℕ)) × (cond t ([] ∷ pieces bs) (to_first b (pieces bs)) ≡ p ∷ ps))) [
      | true ↦ ([], (pieces bs, refl))
      | false ↦ (b ∷ rest.0, (rest.1.0, ap (to_first b) rest.1.1))
    ]

-- a line that begins with a token has one
pub some_token : (line : List ℕ) → begins_token line ≡ true → (first : List ℕ) × ((rest : List (List ℕ)) × (tokens line ≡ first ∷ rest))
some_token [] h = absurd cc
some_token (b ∷ bs) h =
    let behind = pieces_are_some bs in
    let parts = or_parts (is_blank b) (b == 59) (not-true _ h) in
    let more : pieces (b ∷ bs) ≡ (b ∷ behind.0) ∷ behind.1.0 = rw parts.0 (ap (to_first b) behind.1.1) in
    (b ∷ behind.0, (tokens_of behind.1.0, ap tokens_of more ∙ word_is_token b behind.0 behind.1.0 h))
