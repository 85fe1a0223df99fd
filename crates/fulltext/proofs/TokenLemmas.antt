-- The tokens of a line are words without blanks, of its bytes, and bytes that are put behind words with a space keep them.
use Rattle.std.proofs.Common.{◌≡◌, ℕ, Bool, true, false, cond, not, ◌&&◌, ◌||◌, nat_eq, List, [], ◌∷◌, ◌++◌, filter, refl, sym, ap, subst, ◌∙◌, append_assoc, inl, inr}
use Rattle.std.specs.List.{AllByRecursion, list_all, list_any}
use Rattle.std.proofs.lemmas.Bool.{and_parts, and_from, or_parts, or_from, not-false, not-true, both_ways, or_left, not_from_false}
use Rattle.base.specs.Lines.{to_first}
use Rattle.base.specs.Decimals.{is_nothing}
use Rattle.btor2.specs.Symbols.{is_comment}
use Rattle.btor2text.specs.Reading.{Tokens}
use Rattle.btor2text.specs.Tokens.{is_blank, pieces, before_comment, tokens, begins_token}
use Rattle.btor2text.proofs.TokenLemmas.{tokens-word_blank}
use Rattle.fulltext.specs.Steps.{IsWhole}

-- each byte of a piece is one of the line's that is no blank
to_first_all : (P : ℕ → Bool) (b : ℕ) (ps : List (List ℕ)) → P b ≡ true → AllByRecursion (λ p. list_all P p ≡ true) ps → AllByRecursion (λ p. list_all P p ≡ true) (to_first b ps)
to_first_all P b [] h all = (and_from (P b) true h refl, tt)
to_first_all P b (p ∷ ps) h all = (and_from (P b) (list_all P p) h all.0, all.1)

pieces_all : (P : ℕ → Bool) (line : List ℕ) → list_all (λ b. is_blank b || P b) line ≡ true → AllByRecursion (λ p. list_all P p ≡ true) (pieces line)
pieces_all P [] h = (refl, tt)
pieces_all P (b ∷ bs) h = by (is_blank b) (and_parts (is_blank b || P b) _ h).0 (pieces_all P bs (and_parts (is_blank b || P b) _ h).1)
  where
    by : (blank : Bool) → (blank || P b) ≡ true → AllByRecursion (λ p. list_all P p ≡ true) (pieces bs) → AllByRecursion (λ p. list_all P p ≡ true) (cond blank ([] ∷ pieces bs) (to_first b (pieces bs)))
    by true is all = (refl, all)
    by false is all = to_first_all P b (pieces bs) is all

-- what holds of the pieces holds of the tokens, which are something and begin no comment
kept_all : (P : List ℕ → Type 0) (ps : List (List ℕ)) → AllByRecursion P ps → AllByRecursion P (filter (λ p. not (is_nothing p)) ps)
kept_all P [] h = tt
kept_all P (p ∷ ps) h = by (not (is_nothing p)) (kept_all P ps h.1)
  where
    by : (b : Bool) → AllByRecursion P (filter (λ q. not (is_nothing q)) ps) → AllByRecursion P (cond b (p ∷ filter (λ q. not (is_nothing q)) ps) (filter (λ q. not (is_nothing q)) ps))
    by true rest = (h.0, rest)
    by false rest = rest

some_all : (ps : List (List ℕ)) → AllByRecursion (λ p. is_nothing p ≡ false) (filter (λ p. not (is_nothing p)) ps)
some_all [] = tt
some_all (p ∷ ps) = by (is_nothing p) refl (some_all ps)
  where
    by : (b : Bool) → is_nothing p ≡ b → AllByRecursion (λ q. is_nothing q ≡ false) (filter (λ q. not (is_nothing q)) ps) → AllByRecursion (λ q. is_nothing q ≡ false) (cond (not b) (p ∷ filter (λ q. not (is_nothing q)) ps) (filter (λ q. not (is_nothing q)) ps))
    by true e rest = rest
    by false e rest = (e, rest)

front_all : (P : List ℕ → Type 0) (ps : List (List ℕ)) → AllByRecursion P ps → AllByRecursion P (before_comment ps)
front_all P [] h = tt
front_all P (p ∷ ps) h = by (is_comment p) (front_all P ps h.1)
  where
    by : (b : Bool) → AllByRecursion P (before_comment ps) → AllByRecursion P (cond b [] (p ∷ before_comment ps))
    by true rest = tt
    by false rest = (h.0, rest)

no_comment : (ps : List (List ℕ)) → AllByRecursion (λ p. is_comment p ≡ false) (before_comment ps)
no_comment [] = tt
no_comment (p ∷ ps) = by (is_comment p) refl (no_comment ps)
  where
    by : (b : Bool) → is_comment p ≡ b → AllByRecursion (λ q. is_comment q ≡ false) (before_comment ps) → AllByRecursion (λ q. is_comment q ≡ false) (cond b [] (p ∷ before_comment ps))
    by true e rest = tt
    by false e rest = (e, rest)

pub tokens_all : (P : ℕ → Bool) (line : List ℕ) → list_all (λ b. is_blank b || P b) line ≡ true → AllByRecursion (λ t. list_all P t ≡ true) (tokens line)
tokens_all P line h =
    front_all (λ t. list_all P t ≡ true) (filter (λ p. not (is_nothing p)) (pieces line)) (kept_all (λ t. list_all P t ≡ true) (pieces line) (pieces_all P line h))

-- ---- words

-- bytes that are a token where a blank follows
pub record IsWord (word : List ℕ) : Type 0 where
  pub blanks : list_any is_blank word ≡ false
  pub begins : begins_token word ≡ true

or_not : (b : Bool) → (b || not b) ≡ true
or_not true = refl
or_not false = refl

any_blank : (line : List ℕ) → list_all (λ b. is_blank b || not (is_blank b)) line ≡ true
any_blank [] = refl
any_blank (b ∷ bs) = and_from (is_blank b || not (is_blank b)) _ (or_not (is_blank b)) (any_blank bs)

no_blank : (word : List ℕ) → list_all (λ b. not (is_blank b)) word ≡ true → list_any is_blank word ≡ false
no_blank [] h = refl
no_blank (b ∷ bs) h = let parts = and_parts (not (is_blank b)) _ h in or_from (is_blank b) _ (not-true (is_blank b) parts.0) (no_blank bs parts.1)

begun : (word : List ℕ) → list_any is_blank word ≡ false → is_nothing word ≡ false → is_comment word ≡ false → begins_token word ≡ true
begun [] h some comment = absurd (cc)
begun (b ∷ bs) h some comment = not_from_false (is_blank b || nat_eq b 59) (or_from (is_blank b) (nat_eq b 59) (or_parts (is_blank b) _ h).0 comment)

three : (ts : Tokens) → AllByRecursion (λ t. list_all (λ b. not (is_blank b)) t ≡ true) ts → AllByRecursion (λ t. is_nothing t ≡ false) ts → AllByRecursion (λ t. is_comment t ≡ false) ts → AllByRecursion IsWord ts
three [] h some comment = tt
three (t ∷ ts) h some comment =
    let blanks = no_blank t h.0 in (record { blanks = blanks; begins = begun t blanks some.0 comment.0 }, three ts h.1 some.1 comment.1)

pub tokens_are_words : (line : List ℕ) → AllByRecursion IsWord (tokens line)
tokens_are_words line =
    three (tokens line) (tokens_all (λ b. not (is_blank b)) line (any_blank line)) (front_all (λ t. is_nothing t ≡ false) (filter (λ p. not (is_nothing p)) (pieces line)) (some_all (pieces line)))
    (no_comment (filter (λ p. not (is_nothing p)) (pieces line)))

pub first_is_word : (line token : List ℕ) (rest : Tokens) → tokens line ≡ token ∷ rest → IsWord token
first_is_word line token rest e = (subst (AllByRecursion IsWord) e (tokens_are_words line)).0

-- ---- bytes with whole tokens

pub none_whole : (bytes : List ℕ) → bytes ≡ [] → IsWhole bytes
none_whole bytes e = rw e (λ line. refl)

pub begins_on : (word line : List ℕ) → begins_token word ≡ true → begins_token (word ++ line) ≡ true
begins_on [] line h = absurd (cc)
begins_on (b ∷ bs) line h = h

word_on : (word line : List ℕ) → IsWord word → tokens (word ++ 32 ∷ line) ≡ word ∷ tokens line
word_on word line w = tokens-word_blank word 32 line w.blanks refl (begins_on word (32 ∷ line) w.begins)

module _ (old word new : List ℕ) (is : new ≡ old ++ word ++ 32 ∷ []) (whole : IsWhole old) (w : IsWord word) where
  word_put : (line : List ℕ) → tokens (new ++ line) ≡ tokens old ++ word ∷ tokens line
  word_put line =
      ap (λ (l : List ℕ). tokens (l ++ line)) is
      ∙ (ap tokens (append_assoc (old ++ word) (32 ∷ []) line ∙ append_assoc old word (32 ∷ line))
      ∙ (whole (word ++ 32 ∷ line) ∙ ap (λ (ts : Tokens). tokens old ++ ts) (word_on word line w)))

  pub tokens_put : tokens new ≡ tokens old ++ word ∷ []
  tokens_put =
      ap tokens (is ∙ append_assoc old word (32 ∷ [])) ∙ (whole (word ++ 32 ∷ []) ∙ ap (λ (ts : Tokens). tokens old ++ ts) (word_on word [] w))

  pub whole_put : IsWhole new
  whole_put line = word_put line ∙ (sym (append_assoc (tokens old) (word ∷ []) (tokens line)) ∙ ap (λ (ts : Tokens). ts ++ tokens line) (sym tokens_put))
