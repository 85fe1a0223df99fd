-- The words of the rest of a text, with a byte more in front.
use Rattle.std.proofs.Common.{◌≡◌, ℕ, suc, ◌==◌, Bool, true, false, List, [], ◌∷◌, ◌++◌, map, length, inl, inr, refl, sym, ap, ap₂, ◌∙◌, append_assoc, append-nil}
use Rattle.std.specs.Prelude.{nat_lt}
use Rattle.std.specs.List.{list_any}
use Rattle.std.proofs.lemmas.List.{map-append}
use Rattle.std.proofs.lemmas.Bool.{cases_Bool, eqb-true, or_parts, or_from}
use Rattle.base.specs.Lines.{IsLine, onto_first, whole_lines, all_lines, line_of}
use Rattle.base.proofs.LineLemmas.{whole_lines-line, unfinished-line, whole_lines-last, unfinished-last}
use Rattle.drup.specs.declared.why.Why.TheVariants as why
use Rattle.drup.specs.declared.lines.Place.TheVariants as place
use Rattle.drup.specs.Proofs.{is_proof_blank, ends_word, proof_words, token_of, faulty, Mark, mark, is_proof_comment, most_proof_lines, line_marks, lines_marks}
use Rattle.drup.specs.TextJudges.{this_line, next_lines, word_marks, marks_behind}

-- ---- lines

cut_line : (bs : List ℕ) → list_any (λ c. c == 10) bs ≡ true → bs ≡ this_line bs ++ 10 ∷ next_lines bs
cut_line [] h = absurd (cc)
cut_line (b ∷ bs) h =
    elim (cases_Bool (b == 10)) [
      | inl ten ↦ rw ten (ap (λ (c : ℕ). c ∷ bs) (eqb-true b 10 ten))
      | inr not ↦
          let rest : list_any (λ c. c == 10) bs ≡ true = rw not at h in
          rw not (ap (λ (t : List ℕ). b ∷ t) (cut_line bs rest))
    ]

this_is_line : (bs : List ℕ) → IsLine (this_line bs)
this_is_line [] = refl
this_is_line (b ∷ bs) =
    elim (cases_Bool (b == 10)) [
      | inl ten ↦ rw ten refl
      | inr not ↦ rw not (or_from (b == 10) (list_any (λ c. c == 10) (this_line bs)) not (this_is_line bs))
    ]

this_is_all : (bs : List ℕ) → IsLine bs → (this_line bs ≡ bs) × (next_lines bs ≡ [])
this_is_all [] h = (refl, refl)
this_is_all (b ∷ bs) h =
    let parts = or_parts (b == 10) (list_any (λ c. c == 10) bs) h in
    let own = this_is_all bs parts.1 in
    rw parts.0 (ap (λ (t : List ℕ). b ∷ t) own.0, own.1)

abbrev lines_with : List (List ℕ) → List ℕ → List (List ℕ)
lines_with lines rest = lines ++ line_of rest

all_lines-line : (line rest : List ℕ) → IsLine line → all_lines (line ++ 10 ∷ rest) ≡ line ∷ all_lines rest
all_lines-line line rest is = ap₂ lines_with (whole_lines-line line rest is) (unfinished-line line rest)

all_lines-last : (b : ℕ) (bs : List ℕ) → IsLine (b ∷ bs) → all_lines (b ∷ bs) ≡ (b ∷ bs) ∷ []
all_lines-last b bs is = ap₂ lines_with (whole_lines-last (b ∷ bs) is) (unfinished-last (b ∷ bs) is)

-- a text that is not empty begins with a line
pub lines_first : (b : ℕ) (bs : List ℕ) → all_lines (b ∷ bs) ≡ this_line (b ∷ bs) ∷ all_lines (next_lines (b ∷ bs))
lines_first b bs = at (list_any (λ c. c == 10) (b ∷ bs)) refl
  where
    at : (has : Bool) → list_any (λ c. c == 10) (b ∷ bs) ≡ has → all_lines (b ∷ bs) ≡ this_line (b ∷ bs) ∷ all_lines (next_lines (b ∷ bs))
    at true has = ap all_lines (cut_line (b ∷ bs) has) ∙ all_lines-line (this_line (b ∷ bs)) (next_lines (b ∷ bs)) (this_is_line (b ∷ bs))
    at false none =
        let own = this_is_all (b ∷ bs) none in
        all_lines-last b bs none ∙ ap₂ (λ (line rest : List ℕ). line ∷ all_lines rest) (sym own.0) (sym own.1)

-- a byte that ends no line leaves as many whole lines
pub lines_same : (b : ℕ) (bs : List ℕ) → (b == 10) ≡ false → length (whole_lines (b ∷ bs)) ≡ length (whole_lines bs)
lines_same b bs not = rw not (onto (whole_lines bs))
  where
    onto : (lines : List (List ℕ)) → length (onto_first b lines) ≡ length lines
    onto [] = refl
    onto (line ∷ lines) = refl

-- ---- words

abbrev pub single : List ℕ → List (List ℕ)
single [] = []
single (b ∷ bs) = (b ∷ bs) ∷ []

blanks : (x : ℕ) (xs : List ℕ) → list_any is_proof_blank (x ∷ xs) ≡ false → (is_proof_blank x ≡ false) × (list_any is_proof_blank xs ≡ false)
blanks x xs h = or_parts (is_proof_blank x) (list_any is_proof_blank xs) h

words_step : (x : ℕ) (ys : List ℕ) → is_proof_blank x ≡ false → ends_word ys ≡ true → proof_words (x ∷ ys) ≡ (x ∷ []) ∷ proof_words ys
words_step x ys apart end = rw (apart, end) refl

words_onto : (x : ℕ) (ys : List ℕ) → is_proof_blank x ≡ false → ends_word ys ≡ false → proof_words (x ∷ ys) ≡ onto_first x (proof_words ys)
words_onto x ys apart on = rw (apart, on) refl

words_skip : (x : ℕ) (ys : List ℕ) → is_proof_blank x ≡ true → proof_words (x ∷ ys) ≡ proof_words ys
words_skip x ys blank = rw blank refl

pub word_alone : (w : List ℕ) → list_any is_proof_blank w ≡ false → proof_words w ≡ single w
word_alone [] plain = refl
word_alone (x ∷ []) plain = words_step x [] (blanks x [] plain).0 refl
word_alone (x ∷ y ∷ ys) plain =
    let own = blanks x (y ∷ ys) plain in
    words_onto x (y ∷ ys) own.0 (blanks y ys own.1).0 ∙ ap (onto_first x) (word_alone (y ∷ ys) own.1)

pub word_before : (w l : List ℕ) (b : ℕ) → list_any is_proof_blank w ≡ false → is_proof_blank b ≡ true → proof_words (w ++ b ∷ l) ≡ single w ++ proof_words l
word_before [] l b plain blank = words_skip b l blank
word_before (x ∷ []) l b plain blank = words_step x (b ∷ l) (blanks x [] plain).0 blank ∙ ap (λ (ws : List (List ℕ)). (x ∷ []) ∷ ws) (words_skip b l blank)
word_before (x ∷ y ∷ ys) l b plain blank =
    let own = blanks x (y ∷ ys) plain in
    words_onto x ((y ∷ ys) ++ b ∷ l) own.0 (blanks y ys own.1).0 ∙ ap (onto_first x) (word_before (y ∷ ys) l b own.1 blank)

marks_single : (variables n : ℕ) (w : List ℕ) → map (λ x. mark n (token_of variables x)) (single w) ≡ word_marks variables n w
marks_single variables n [] = refl
marks_single variables n (b ∷ bs) = refl

-- ---- a byte more

pub this_on : (b : ℕ) (more : List ℕ) → (b == 10) ≡ false → this_line (b ∷ more) ≡ b ∷ this_line more
this_on b more not = rw not refl

pub next_on : (b : ℕ) (more : List ℕ) → (b == 10) ≡ false → next_lines (b ∷ more) ≡ next_lines more
next_on b more not = rw not refl

pub this_ends : (b : ℕ) (more : List ℕ) → (b == 10) ≡ true → this_line (b ∷ more) ≡ []
this_ends b more ten = rw ten refl

pub next_ends : (b : ℕ) (more : List ℕ) → (b == 10) ≡ true → next_lines (b ∷ more) ≡ more
next_ends b more ten = rw ten refl

-- the marks of a line of words, and of the lines behind it
abbrev line_and_rest : ℕ → ℕ → List ℕ → List ℕ → List Mark
line_and_rest variables n line rest = map (λ x. mark n (token_of variables x)) (proof_words line) ++ lines_marks variables (suc n) (all_lines rest)

pub marks_blank : (variables n : ℕ) (w : List ℕ) (b : ℕ) (more : List ℕ) → list_any is_proof_blank w ≡ false → (b == 10) ≡ false → is_proof_blank b ≡ true
    → marks_behind variables place.Within n w (b ∷ more) ≡ word_marks variables n w ++ marks_behind variables place.Within n [] more
marks_blank variables n w b more plain not blank =
    let said : List ℕ → Mark = λ x. mark n (token_of variables x) in
    let behind : List Mark = lines_marks variables (suc n) (all_lines (next_lines more)) in
    let here : map said (proof_words (w ++ b ∷ this_line more)) ≡ word_marks variables n w ++ map said (proof_words (this_line more)) =
    ap (map said) (word_before w (this_line more) b plain blank) ∙ map-append said (single w) (proof_words (this_line more)) ∙ ap (λ (ms : List Mark). ms ++ map said (proof_words (this_line more))) (marks_single variables n w) in
    ap₂ (λ (t r : List ℕ). line_and_rest variables n (w ++ t) r) (this_on b more not) (next_on b more not)
    ∙ ap (λ (ms : List Mark). ms ++ behind) here
    ∙ append_assoc (word_marks variables n w) (map said (proof_words (this_line more))) behind

line_word : (variables n : ℕ) (w : List ℕ) → list_any is_proof_blank w ≡ false → map (λ x. mark n (token_of variables x)) (proof_words (w ++ [])) ≡ word_marks variables n w
line_word variables n w plain =
    ap (λ (t : List ℕ). map (λ x. mark n (token_of variables x)) (proof_words t)) (append-nil w) ∙ ap (map (λ x. mark n (token_of variables x))) (word_alone w plain) ∙ marks_single variables n w

pub marks_line : (variables n : ℕ) (w : List ℕ) (b : ℕ) (more : List ℕ) → list_any is_proof_blank w ≡ false → (b == 10) ≡ true
    → marks_behind variables place.Within n w (b ∷ more) ≡ word_marks variables n w ++ marks_behind variables place.Begins (suc n) [] more
marks_line variables n w b more plain ten =
    ap₂ (λ (t r : List ℕ). line_and_rest variables n (w ++ t) r) (this_ends b more ten) (next_ends b more ten)
    ∙ ap (λ (ms : List Mark). ms ++ lines_marks variables (suc n) (all_lines more)) (line_word variables n w plain)

pub marks_letter : (variables n : ℕ) (w : List ℕ) (b : ℕ) (more : List ℕ) → (b == 10) ≡ false
    → marks_behind variables place.Within n w (b ∷ more) ≡ marks_behind variables place.Within n (w ++ b ∷ []) more
marks_letter variables n w b more not =
    ap₂ (λ (t r : List ℕ). line_and_rest variables n (w ++ t) r) (this_on b more not) (next_on b more not)
    ∙ ap (λ (t : List ℕ). line_and_rest variables n t (next_lines more)) (sym (append_assoc w (b ∷ []) (this_line more)))

pub marks_end : (variables n : ℕ) (w : List ℕ) → list_any is_proof_blank w ≡ false → marks_behind variables place.Within n w [] ≡ word_marks variables n w
marks_end variables n w plain = append-nil (map (λ x. mark n (token_of variables x)) (proof_words (w ++ []))) ∙ line_word variables n w plain

-- ---- a line begins

long_line : (variables n : ℕ) (line : List ℕ) → nat_lt most_proof_lines n ≡ true → line_marks variables n line ≡ mark n (faulty why.TooLong) ∷ []
long_line variables n line many = rw many refl

comment_line : (variables n : ℕ) (line : List ℕ) → nat_lt most_proof_lines n ≡ false → is_proof_comment line ≡ true → line_marks variables n line ≡ []
comment_line variables n line few is = rw (few, is) refl

words_line : (variables n : ℕ) (line : List ℕ) → nat_lt most_proof_lines n ≡ false → is_proof_comment line ≡ false → line_marks variables n line ≡ map (λ x. mark n (token_of variables x)) (proof_words line)
words_line variables n line few not = rw (few, not) refl

-- a line that is read in this way, and those behind it
first_marks : (variables n : ℕ) (b : ℕ) (more : List ℕ) (ms : List Mark) → line_marks variables n (this_line (b ∷ more)) ≡ ms
    → lines_marks variables n (all_lines (b ∷ more)) ≡ ms ++ lines_marks variables (suc n) (all_lines (next_lines (b ∷ more)))
first_marks variables n b more ms is = ap (lines_marks variables n) (lines_first b more) ∙ ap (λ (front : List Mark). front ++ lines_marks variables (suc n) (all_lines (next_lines (b ∷ more)))) is

pub marks_too_long : (variables n : ℕ) (b : ℕ) (more : List ℕ) → nat_lt most_proof_lines n ≡ true
    → lines_marks variables n (all_lines (b ∷ more)) ≡ mark n (faulty why.TooLong) ∷ lines_marks variables (suc n) (all_lines (next_lines (b ∷ more)))
marks_too_long variables n b more many = first_marks variables n b more (mark n (faulty why.TooLong) ∷ []) (long_line variables n (this_line (b ∷ more)) many)

pub marks_comment : (variables n : ℕ) (b : ℕ) (more : List ℕ) → nat_lt most_proof_lines n ≡ false → (b == 10) ≡ false → (b == 99) ≡ true
    → lines_marks variables n (all_lines (b ∷ more)) ≡ marks_behind variables place.Comment n [] more
marks_comment variables n b more few not is =
    first_marks variables n b more [] (comment_line variables n (this_line (b ∷ more)) few (ap is_proof_comment (this_on b more not) ∙ is))
    ∙ ap (λ (r : List ℕ). lines_marks variables (suc n) (all_lines r)) (next_on b more not)

pub no_comment : (b : ℕ) (more : List ℕ) → (b == 99) ≡ false → is_proof_comment (this_line (b ∷ more)) ≡ false
no_comment b more not =
    elim (cases_Bool (b == 10)) [
      | inl ten ↦ ap is_proof_comment (this_ends b more ten)
      | inr other ↦ ap is_proof_comment (this_on b more other) ∙ not
    ]

pub marks_within : (variables n : ℕ) (b : ℕ) (more : List ℕ) → nat_lt most_proof_lines n ≡ false → (b == 99) ≡ false
    → lines_marks variables n (all_lines (b ∷ more)) ≡ marks_behind variables place.Within n [] (b ∷ more)
marks_within variables n b more few not =
    first_marks variables n b more (map (λ x. mark n (token_of variables x)) (proof_words (this_line (b ∷ more)))) (words_line variables n (this_line (b ∷ more)) few (no_comment b more not))
