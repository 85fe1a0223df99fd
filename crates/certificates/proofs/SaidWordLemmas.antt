-- Words with a blank between two, keys, and the decimals behind them: what a line says, and how it is read.
use Rattle.std.proofs.Common.{◌≡◌, ℕ, Bool, true, false, ◌||◌, ◌==◌, List, [], ◌∷◌, ◌++◌, All, flat_map, Option, None, Some, if◌then◌else◌, ⊎_elim, refl, sym, ap, ◌∙◌, append-nil, arith, bytes_eq}
use Rattle.std.specs.List.{list_any}
use Rattle.std.proofs.lemmas.Bool.{cases_Bool, eqb-true}
use Rattle.std.proofs.lemmas.List.Elements.{All-nil, All-cons, All-head, All-tail, All-same}
use Rattle.std.proofs.lemmas.Slice.Eq.{bytes_eq-Decides}
use Rattle.base.specs.Lines.{HasNone, onto_first}
use Rattle.base.specs.Decimals.{is_decimal, capped_value, number_of}
use Rattle.base.proofs.DecimalLemmas.{decimal_are_digits, digits_without}
use Rattle.certificates.specs.Reading.{line_words, behind_key, sole, sole_behind, value_behind, decimal_of}
use Rattle.certificates.proofs.WordLemmas.{words-none, words-blank, words-some, words_other}

-- ---- words

-- words with a blank between two
abbrev pub joined : List (List ℕ) → List ℕ
joined [] = []
joined (word ∷ more) = word ++ flat_map (λ w. 32 ∷ w) more

-- the words of a line make up the line
pub words_joined : (line : List ℕ) → joined (line_words line) ≡ line
words_joined [] = refl
words_joined (b ∷ bs) =
    let some = words-some bs in
    let rest : joined (some.0 ∷ some.1) ≡ bs = ap joined (sym some.2) ∙ words_joined bs in
    ⊎_elim
    (λ (on : (b == 32) ≡ true).
    ap (λ (x : Bool). joined (if x then [] ∷ line_words bs else onto_first b (line_words bs))) on
    ∙ (ap (λ (ws : List (List ℕ)). joined ([] ∷ ws)) some.2 ∙ (ap (λ (xs : List ℕ). 32 ∷ xs) rest ∙ ap (λ (x : ℕ). x ∷ bs) (sym (eqb-true b 32 on)))))
    (λ (off : (b == 32) ≡ false).
    ap joined (words_other b bs off) ∙ (ap (λ (ws : List (List ℕ)). joined (onto_first b ws)) some.2 ∙ ap (λ (xs : List ℕ). b ∷ xs) rest))
    (cases_Bool (b == 32))

none_more : (b : ℕ) (bs : List ℕ) → (b == 32) ≡ false → HasNone 32 bs → HasNone 32 (b ∷ bs)
none_more b bs off none = ap (λ (x : Bool). x || list_any (λ c. c == 32) bs) off ∙ none

-- no word has a blank
pub words_bare : (line : List ℕ) → All (HasNone 32) (line_words line)
words_bare [] = All-cons (HasNone 32) [] [] refl (All-nil (HasNone 32))
words_bare (b ∷ bs) =
    let some = words-some bs in
    let rest : All (HasNone 32) (some.0 ∷ some.1) = All-same (HasNone 32) (some.0 ∷ some.1) (line_words bs) (sym some.2) (words_bare bs) in
    ⊎_elim
    (λ (on : (b == 32) ≡ true).
    All-same (HasNone 32) (line_words (b ∷ bs)) ([] ∷ line_words bs) (ap (λ (x : Bool). if x then [] ∷ line_words bs else onto_first b (line_words bs)) on)
    (All-cons (HasNone 32) [] (line_words bs) refl (words_bare bs)))
    (λ (off : (b == 32) ≡ false).
    All-same (HasNone 32) (line_words (b ∷ bs)) ((b ∷ some.0) ∷ some.1) (words_other b bs off ∙ ap (onto_first b) some.2)
    (All-cons (HasNone 32) (b ∷ some.0) some.1 (none_more b some.0 off (All-head (HasNone 32) some.0 some.1 rest)) (All-tail (HasNone 32) some.0 some.1 rest)))
    (cases_Bool (b == 32))

-- words without a blank are those of what they make up
pub words_of_joined : (word : List ℕ) (more : List (List ℕ)) → HasNone 32 word → All (HasNone 32) more → line_words (joined (word ∷ more)) ≡ word ∷ more
words_of_joined word [] none all = ap line_words (append-nil word) ∙ words-none word none
words_of_joined word (next ∷ more) none all =
    words-blank word (joined (next ∷ more)) none
    ∙ ap (λ (ws : List (List ℕ)). word ∷ ws) (words_of_joined next more (All-head (HasNone 32) next more all) (All-tail (HasNone 32) next more all))

-- ---- a key

pub key_first : (key : List ℕ) (ws more : List (List ℕ)) → behind_key key ws ≡ Some more → ws ≡ key ∷ more
key_first key [] more e = absurd (cc)
key_first key (w ∷ ws) more e = by (bytes_eq w key) refl e
  where
    by : (b : Bool) → bytes_eq w key ≡ b → (if b then Some ws else None) ≡ Some more → w ∷ ws ≡ key ∷ more
    by true same e = let word : w ≡ key = (bytes_eq-Decides w key).0 same in let rest : ws ≡ more = cc in cc
    by false other e = absurd (cc)

pub behind_first : (key : List ℕ) (more : List (List ℕ)) → behind_key key (key ∷ more) ≡ Some more
behind_first key more = ap (λ (b : Bool). if b then Some more else None) ((bytes_eq-Decides key key).1 refl)

-- the line of a key and one word
pub value_line : (key line word : List ℕ) → value_behind key line ≡ Some word → (line ≡ key ++ 32 ∷ word) × HasNone 32 word
value_line key line word e = by (behind_key key (line_words line)) refl e
  where
    one : (more : List (List ℕ)) → sole more ≡ Some word → more ≡ word ∷ []
    one [] e = absurd (cc)
    one (w ∷ []) e = cc
    one (w ∷ next ∷ more) e = absurd (cc)

    by : (o : Option (List (List ℕ))) → behind_key key (line_words line) ≡ o → sole_behind o ≡ Some word → (line ≡ key ++ 32 ∷ word) × HasNone 32 word
    by None is e = absurd (cc)
    by (Some more) is e =
        let two : line_words line ≡ key ∷ word ∷ [] = key_first key (line_words line) more is ∙ ap (λ (ws : List (List ℕ)). key ∷ ws) (one more e) in
        let bare : All (HasNone 32) (key ∷ word ∷ []) = All-same (HasNone 32) (key ∷ word ∷ []) (line_words line) (sym two) (words_bare line) in (
          sym (words_joined line) ∙ (ap joined two ∙ ap (λ (xs : List ℕ). key ++ 32 ∷ xs) (append-nil word)),
          All-head (HasNone 32) word [] (All-tail (HasNone 32) key (word ∷ []) bare),
        )

pub value_read : (key word : List ℕ) → HasNone 32 key → HasNone 32 word → value_behind key (key ++ 32 ∷ word) ≡ Some word
value_read key word none bare =
    ap (λ (ws : List (List ℕ)). sole_behind (behind_key key ws)) (words-blank key word none ∙ ap (λ (ws : List (List ℕ)). key ∷ ws) (words-none word bare))
    ∙ ap sole_behind (behind_first key (word ∷ []))

-- ---- decimals

decimal_bare : (word : List ℕ) (n : ℕ) → number_of word ≡ Some n → HasNone 32 word
unfolding number_of
decimal_bare word n e = by (is_decimal word) refl e
  where
    by : (b : Bool) → is_decimal word ≡ b → (if b then Some (capped_value word) else None) ≡ Some n → HasNone 32 word
    by true is e = digits_without 32 word (omega arith) (decimal_are_digits word is)
    by false is e = absurd (cc)

-- the line of a key and a decimal
pub decimal_line : (key line : List ℕ) (n : ℕ) → decimal_of (value_behind key line) ≡ Some n → (word : List ℕ) × (line ≡ key ++ 32 ∷ word) × (number_of word ≡ Some n)
decimal_line key line n e = by (value_behind key line) refl e
  where
    by : (o : Option (List ℕ)) → value_behind key line ≡ o → decimal_of o ≡ Some n → (word : List ℕ) × (line ≡ key ++ 32 ∷ word) × (number_of word ≡ Some n)
    by None is e = absurd (cc)
    by (Some word) is e = (word, (value_line key line word is).0, e)

pub decimal_read : (key word : List ℕ) (n : ℕ) → HasNone 32 key → number_of word ≡ Some n → decimal_of (value_behind key (key ++ 32 ∷ word)) ≡ Some n
decimal_read key word n none e = ap decimal_of (value_read key word none (decimal_bare word n e)) ∙ e
