-- What is written of words, byte by byte.
use Rattle.std.proofs.Common.{◌≡◌, ℕ, true, false, not, List, [], ◌∷◌, ◌++◌, map, filter, flat_map, refl, sym, ap, ap₂, ◌∙◌, inl, inr, ◌==◌}
use Rattle.std.proofs.lemmas.Bool.{cases_Bool, or_cases, eqb-true}
use Rattle.std.proofs.lemmas.List.{map-append}
use Rattle.base.specs.Decimals.{is_nothing, is_digit}
use Rattle.tidy.specs.declared.place.Place.{Place}
use Rattle.tidy.specs.declared.place.Place.TheVariants as place
use Rattle.tidy.specs.declared.line.Word.{Word}
use Rattle.tidy.specs.declared.line.Word.TheVariants as word
use Rattle.tidy.specs.Words.{is_gap, onto_piece, word_pieces, words, joined, plain, unindented, begins_digit}
use Rattle.tidy.specs.Tidied.{zero_x, zero_value}
use Rattle.tidy.specs.Steps.{later, takes_x, changed}

abbrev pub some_words : List (List ℕ) → List (List ℕ)
some_words ps = filter (λ p. not (is_nothing p)) ps

-- words behind a word, each with a space in front
abbrev pub spaced : Place → Word → List (List ℕ) → List ℕ
spaced p w [] = []
spaced p w (v ∷ vs) = 32 ∷ map (changed p (later w)) v ++ spaced p (later w) vs

-- all words of a line
abbrev pub all_words : Place → List (List ℕ) → List ℕ
all_words p [] = []
all_words p (v ∷ vs) = map (changed p word.First) v ++ spaced p word.First vs

-- what is left of a word, and the words behind it
abbrev pub in_pieces : Place → Word → List (List ℕ) → List ℕ
in_pieces p w [] = []
in_pieces p w (v ∷ vs) = map (changed p w) v ++ spaced p w (some_words vs)

abbrev pub in_word : Place → Word → List ℕ → List ℕ
in_word p w bytes = in_pieces p w (word_pieces bytes)

abbrev pub in_gap : Place → Word → List ℕ → List ℕ
in_gap p w bytes = spaced p w (words bytes)

-- ---- a byte more

first_of : (p : Place) (b : ℕ) (ps : List (List ℕ)) → all_words p (some_words (onto_piece b ps)) ≡ changed p word.First b ∷ in_pieces p word.First ps
first_of p b [] = refl
first_of p b (v ∷ vs) = refl

pub next_of : (p : Place) (w : Word) (b : ℕ) (ps : List (List ℕ)) → in_pieces p w (onto_piece b ps) ≡ changed p w b ∷ in_pieces p w ps
next_of p w b [] = refl
next_of p w b (v ∷ vs) = refl

pub behind_gap : (p : Place) (w : Word) (b : ℕ) (ps : List (List ℕ)) → spaced p w (some_words (onto_piece b ps)) ≡ 32 ∷ changed p (later w) b ∷ in_pieces p (later w) ps
behind_gap p w b [] = refl
behind_gap p w b (v ∷ vs) = refl

pub pieces_blank : (b : ℕ) (bs : List ℕ) → is_gap b ≡ true → word_pieces (b ∷ bs) ≡ [] ∷ word_pieces bs
pieces_blank b bs h = rw h refl

pub pieces_byte : (b : ℕ) (bs : List ℕ) → is_gap b ≡ false → word_pieces (b ∷ bs) ≡ onto_piece b (word_pieces bs)
pieces_byte b bs h = rw h refl

pub words_blank : (b : ℕ) (bs : List ℕ) → is_gap b ≡ true → words (b ∷ bs) ≡ words bs
words_blank b bs h = ap some_words (pieces_blank b bs h)

pub plain_blank : (b : ℕ) (bs : List ℕ) → is_gap b ≡ true → plain (b ∷ bs) ≡ plain bs
plain_blank b bs h = ap joined (words_blank b bs h)

pub unindented_blank : (b : ℕ) (bs : List ℕ) → is_gap b ≡ true → unindented (b ∷ bs) ≡ unindented bs
unindented_blank b bs h = rw h refl

pub unindented_byte : (b : ℕ) (bs : List ℕ) → is_gap b ≡ false → unindented (b ∷ bs) ≡ b ∷ bs
unindented_byte b bs h = rw h refl

pub all_words_byte : (p : Place) (b : ℕ) (bs : List ℕ) → is_gap b ≡ false → all_words p (words (b ∷ bs)) ≡ changed p word.First b ∷ in_word p word.First bs
all_words_byte p b bs h = ap (λ (ps : List (List ℕ)). all_words p (some_words ps)) (pieces_byte b bs h) ∙ first_of p b (word_pieces bs)

pub in_word_blank : (p : Place) (w : Word) (b : ℕ) (bs : List ℕ) → is_gap b ≡ true → in_word p w (b ∷ bs) ≡ in_gap p w bs
in_word_blank p w b bs h = ap (in_pieces p w) (pieces_blank b bs h)

pub in_word_byte : (p : Place) (w : Word) (b : ℕ) (bs : List ℕ) → is_gap b ≡ false → in_word p w (b ∷ bs) ≡ changed p w b ∷ in_word p w bs
in_word_byte p w b bs h = ap (in_pieces p w) (pieces_byte b bs h) ∙ next_of p w b (word_pieces bs)

pub in_gap_byte : (p : Place) (w : Word) (b : ℕ) (bs : List ℕ) → is_gap b ≡ false → in_gap p w (b ∷ bs) ≡ 32 ∷ changed p (later w) b ∷ in_word p (later w) bs
in_gap_byte p w b bs h = ap (λ (ps : List (List ℕ)). spaced p w (some_words ps)) (pieces_byte b bs h) ∙ behind_gap p w b (word_pieces bs)

-- ---- the words of a line as the definition has them

abbrev pub IsPlain : Place → Type 0
IsPlain p = (w : Word) → takes_x p w ≡ false

same_bytes : (p : Place) (w : Word) (v : List ℕ) → takes_x p w ≡ false → map (changed p w) v ≡ v
same_bytes p w [] h = refl
same_bytes p w (b ∷ bs) h = rw h (ap (λ (l : List ℕ). b ∷ l) (same_bytes p w bs h))

zero_bytes : (p : Place) (w : Word) (v : List ℕ) → takes_x p w ≡ true → map (changed p w) v ≡ map zero_x v
zero_bytes p w [] h = refl
zero_bytes p w (b ∷ bs) h = rw h (ap (λ (l : List ℕ). zero_x b ∷ l) (zero_bytes p w bs h))

spaced_plain : (p : Place) (w : Word) (vs : List (List ℕ)) → IsPlain p → flat_map (λ (v : List ℕ). 32 ∷ v) vs ≡ spaced p w vs
spaced_plain p w [] h = refl
spaced_plain p w (v ∷ vs) h = ap₂ (λ (x y : List ℕ). 32 ∷ (x ++ y)) (sym (same_bytes p (later w) v (h (later w)))) (spaced_plain p (later w) vs h)

pub joined_plain : (p : Place) (vs : List (List ℕ)) → IsPlain p → joined vs ≡ all_words p vs
joined_plain p [] h = refl
joined_plain p (v ∷ vs) h = ap₂ (λ (x y : List ℕ). x ++ y) (sym (same_bytes p word.First v (h word.First))) (spaced_plain p word.First vs h)

spaced_zero : (p : Place) (w : Word) (vs : List (List ℕ)) → ((w : Word) → takes_x p w ≡ true) → map zero_x (flat_map (λ (v : List ℕ). 32 ∷ v) vs) ≡ spaced p w vs
spaced_zero p w [] h = refl
spaced_zero p w (v ∷ vs) h =
    ap (λ (l : List ℕ). 32 ∷ l) (map-append zero_x v (flat_map (λ (v : List ℕ). 32 ∷ v) vs))
    ∙ ap₂ (λ (x y : List ℕ). 32 ∷ (x ++ y)) (sym (zero_bytes p (later w) v (h (later w)))) (spaced_zero p (later w) vs h)

pub joined_zero : (p : Place) (vs : List (List ℕ)) → ((w : Word) → takes_x p w ≡ true) → map zero_x (joined vs) ≡ all_words p vs
joined_zero p [] h = refl
joined_zero p (v ∷ vs) h =
    map-append zero_x v (flat_map (λ (v : List ℕ). 32 ∷ v) vs)
    ∙ ap₂ (λ (x y : List ℕ). x ++ y) (sym (zero_bytes p word.First v (h word.First))) (spaced_zero p word.First vs h)

spaced_later : (vs : List (List ℕ)) → flat_map (λ (v : List ℕ). 32 ∷ v) vs ≡ spaced place.Parts word.Later vs
spaced_later [] = refl
spaced_later (v ∷ vs) = ap₂ (λ (x y : List ℕ). 32 ∷ (x ++ y)) (sym (same_bytes place.Parts word.Later v refl)) (spaced_later vs)

spaced_second : (vs : List (List ℕ)) → flat_map (λ (v : List ℕ). 32 ∷ v) vs ≡ spaced place.Parts word.Second vs
spaced_second [] = refl
spaced_second (v ∷ vs) = ap₂ (λ (x y : List ℕ). 32 ∷ (x ++ y)) (sym (same_bytes place.Parts word.Later v refl)) (spaced_later vs)

pub joined_value : (vs : List (List ℕ)) → joined (zero_value vs) ≡ all_words place.Parts vs
joined_value [] = refl
joined_value (w ∷ []) = ap (λ (x : List ℕ). x ++ []) (sym (same_bytes place.Parts word.First w refl))
joined_value (w ∷ v ∷ vs) =
    ap₂ (λ (x y : List ℕ). x ++ y) (sym (same_bytes place.Parts word.First w refl))
    (ap₂ (λ (x y : List ℕ). 32 ∷ (x ++ y)) (sym (zero_bytes place.Parts word.Second v refl)) (spaced_second vs))

-- ---- a plain line

same_byte : (p : Place) (w : Word) (b : ℕ) → takes_x p w ≡ false → changed p w b ≡ b
same_byte p w b none = rw none refl

pub plain_byte : (p : Place) (b : ℕ) (bs : List ℕ) → IsPlain p → is_gap b ≡ false → plain (b ∷ bs) ≡ b ∷ in_word p word.First bs
plain_byte p b bs h byte = joined_plain p (words (b ∷ bs)) h ∙ all_words_byte p b bs byte ∙ ap (λ (c : ℕ). c ∷ in_word p word.First bs) (same_byte p word.First b (h word.First))

no_digit : (p : Place) (w : Word) (vs : List (List ℕ)) → begins_digit (spaced p w vs) ≡ false
no_digit p w [] = refl
no_digit p w (v ∷ vs) = refl

blank_no_digit : (b : ℕ) → is_gap b ≡ true → is_digit b ≡ false
blank_no_digit b h =
    elim (or_cases (b == 32) _ h) [
      | inl space ↦ ap is_digit (eqb-true b 32 space)
      | inr more ↦ elim (or_cases (b == 9) _ more) [ inl tab ↦ ap is_digit (eqb-true b 9 tab) | inr cr ↦ ap is_digit (eqb-true b 13 cr) ]
    ]

-- the first byte behind `u` is a digit where it is in the line
pub digit_behind : (p : Place) (w : Word) (b : ℕ) (bs : List ℕ) → takes_x p w ≡ false → begins_digit (in_word p w (b ∷ bs)) ≡ is_digit b
digit_behind p w b bs none =
    elim (cases_Bool (is_gap b)) [
      | inl blank ↦ ap begins_digit (in_word_blank p w b bs blank) ∙ (no_digit p w (words bs) ∙ sym (blank_no_digit b blank))
      | inr byte ↦ ap begins_digit (in_word_byte p w b bs byte) ∙ ap is_digit (same_byte p w b none)
    ]
