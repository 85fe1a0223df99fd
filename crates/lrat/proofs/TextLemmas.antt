-- The words of the rest of a text, with a byte more in front.
use Rattle.std.proofs.Common.{◌≡◌, ℕ, suc, ◌==◌, true, false, List, [], ◌∷◌, ◌++◌, map, refl, sym, ap, ap₂, ◌∙◌, append_assoc, append-nil}
use Rattle.std.specs.Prelude.{nat_lt}
use Rattle.std.specs.List.{list_any}
use Rattle.std.proofs.lemmas.List.{map-append}
use Rattle.base.specs.Lines.{all_lines}
use Rattle.drup.specs.declared.why.Why.TheVariants as why
use Rattle.drup.specs.declared.lines.Place.TheVariants as place
use Rattle.drup.specs.Proofs.{is_proof_blank, proof_words, is_proof_comment, most_proof_lines}
use Rattle.drup.specs.TextJudges.{this_line, next_lines}
use Rattle.drup.proofs.TextLemmas.{lines_first, single, word_alone, word_before, this_on, next_on, this_ends, next_ends, no_comment}
use Rattle.lrat.specs.HintedProofs.{token_of, faulty, Mark, mark, line_marks, lines_marks}
use Rattle.lrat.specs.TextJudges.{word_marks, marks_behind}

-- ---- a byte more

marks_single : (n : ℕ) (w : List ℕ) → map (λ x. mark n (token_of x)) (single w) ≡ word_marks n w
marks_single n [] = refl
marks_single n (b ∷ bs) = refl

-- the marks of a line of words, and of the lines behind it
abbrev line_and_rest : ℕ → List ℕ → List ℕ → List Mark
line_and_rest n line rest = map (λ x. mark n (token_of x)) (proof_words line) ++ lines_marks (suc n) (all_lines rest)

pub marks_blank : (n : ℕ) (w : List ℕ) (b : ℕ) (more : List ℕ) → list_any is_proof_blank w ≡ false → (b == 10) ≡ false → is_proof_blank b ≡ true
    → marks_behind place.Within n w (b ∷ more) ≡ word_marks n w ++ marks_behind place.Within n [] more
marks_blank n w b more plain not blank =
    let said : List ℕ → Mark = λ x. mark n (token_of x) in
    let behind : List Mark = lines_marks (suc n) (all_lines (next_lines more)) in
    let here : map said (proof_words (w ++ b ∷ this_line more)) ≡ word_marks n w ++ map said (proof_words (this_line more)) =
    ap (map said) (word_before w (this_line more) b plain blank) ∙ map-append said (single w) (proof_words (this_line more)) ∙ ap (λ (ms : List Mark). ms ++ map said (proof_words (this_line more))) (marks_single n w) in
    ap₂ (λ (t r : List ℕ). line_and_rest n (w ++ t) r) (this_on b more not) (next_on b more not)
    ∙ ap (λ (ms : List Mark). ms ++ behind) here
    ∙ append_assoc (word_marks n w) (map said (proof_words (this_line more))) behind

line_word : (n : ℕ) (w : List ℕ) → list_any is_proof_blank w ≡ false → map (λ x. mark n (token_of x)) (proof_words (w ++ [])) ≡ word_marks n w
line_word n w plain =
    ap (λ (t : List ℕ). map (λ x. mark n (token_of x)) (proof_words t)) (append-nil w) ∙ ap (map (λ x. mark n (token_of x))) (word_alone w plain) ∙ marks_single n w

pub marks_line : (n : ℕ) (w : List ℕ) (b : ℕ) (more : List ℕ) → list_any is_proof_blank w ≡ false → (b == 10) ≡ true
    → marks_behind place.Within n w (b ∷ more) ≡ word_marks n w ++ marks_behind place.Begins (suc n) [] more
marks_line n w b more plain ten =
    ap₂ (λ (t r : List ℕ). line_and_rest n (w ++ t) r) (this_ends b more ten) (next_ends b more ten)
    ∙ ap (λ (ms : List Mark). ms ++ lines_marks (suc n) (all_lines more)) (line_word n w plain)

pub marks_letter : (n : ℕ) (w : List ℕ) (b : ℕ) (more : List ℕ) → (b == 10) ≡ false
    → marks_behind place.Within n w (b ∷ more) ≡ marks_behind place.Within n (w ++ b ∷ []) more
marks_letter n w b more not =
    ap₂ (λ (t r : List ℕ). line_and_rest n (w ++ t) r) (this_on b more not) (next_on b more not)
    ∙ ap (λ (t : List ℕ). line_and_rest n t (next_lines more)) (sym (append_assoc w (b ∷ []) (this_line more)))

pub marks_end : (n : ℕ) (w : List ℕ) → list_any is_proof_blank w ≡ false → marks_behind place.Within n w [] ≡ word_marks n w
marks_end n w plain = append-nil (map (λ x. mark n (token_of x)) (proof_words (w ++ []))) ∙ line_word n w plain

-- ---- a line begins

long_line : (n : ℕ) (line : List ℕ) → nat_lt most_proof_lines n ≡ true → line_marks n line ≡ mark n (faulty why.TooLong) ∷ []
long_line n line many = rw many refl

comment_line : (n : ℕ) (line : List ℕ) → nat_lt most_proof_lines n ≡ false → is_proof_comment line ≡ true → line_marks n line ≡ []
comment_line n line few is = rw (few, is) refl

pub words_line : (n : ℕ) (line : List ℕ) → nat_lt most_proof_lines n ≡ false → is_proof_comment line ≡ false → line_marks n line ≡ map (λ x. mark n (token_of x)) (proof_words line)
words_line n line few not = rw (few, not) refl

-- a line that is read in this way, and those behind it
first_marks : (n : ℕ) (b : ℕ) (more : List ℕ) (ms : List Mark) → line_marks n (this_line (b ∷ more)) ≡ ms
    → lines_marks n (all_lines (b ∷ more)) ≡ ms ++ lines_marks (suc n) (all_lines (next_lines (b ∷ more)))
first_marks n b more ms is = ap (lines_marks n) (lines_first b more) ∙ ap (λ (front : List Mark). front ++ lines_marks (suc n) (all_lines (next_lines (b ∷ more)))) is

pub marks_too_long : (n : ℕ) (b : ℕ) (more : List ℕ) → nat_lt most_proof_lines n ≡ true
    → lines_marks n (all_lines (b ∷ more)) ≡ mark n (faulty why.TooLong) ∷ lines_marks (suc n) (all_lines (next_lines (b ∷ more)))
marks_too_long n b more many = first_marks n b more (mark n (faulty why.TooLong) ∷ []) (long_line n (this_line (b ∷ more)) many)

pub marks_comment : (n : ℕ) (b : ℕ) (more : List ℕ) → nat_lt most_proof_lines n ≡ false → (b == 10) ≡ false → (b == 99) ≡ true
    → lines_marks n (all_lines (b ∷ more)) ≡ marks_behind place.Comment n [] more
marks_comment n b more few not is =
    first_marks n b more [] (comment_line n (this_line (b ∷ more)) few (ap is_proof_comment (this_on b more not) ∙ is))
    ∙ ap (λ (r : List ℕ). lines_marks (suc n) (all_lines r)) (next_on b more not)

pub marks_within : (n : ℕ) (b : ℕ) (more : List ℕ) → nat_lt most_proof_lines n ≡ false → (b == 99) ≡ false
    → lines_marks n (all_lines (b ∷ more)) ≡ marks_behind place.Within n [] (b ∷ more)
marks_within n b more few not =
    first_marks n b more (map (λ x. mark n (token_of x)) (proof_words (this_line (b ∷ more)))) (words_line n (this_line (b ∷ more)) few (no_comment b more not))
