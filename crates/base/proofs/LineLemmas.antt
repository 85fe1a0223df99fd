-- Lines of a text: each text is its whole lines and its unfinished rest, in one way.
use Rattle.std.proofs.Common.{◌≡◌, ℕ, true, false, ◌==◌, List, [], ◌∷◌, ◌++◌, refl, sym, ap, ◌∙◌, inl, inr, append_assoc}
use Rattle.std.specs.List.{list_any, AllByRecursion}
use Rattle.std.proofs.lemmas.Bool.{cases_Bool, eqb-true, or_from, or_parts, or_right}
use Rattle.std.proofs.lemmas.List.{append-nil}
use Rattle.std.proofs.lemmas.List.Folds.{list_any-append}
use Rattle.base.specs.Lines.{text_of_lines, IsLine, onto_first, whole_lines, unfinished}

-- a line with its byte 10 is the first whole line
pub whole_lines-line : (line rest : List ℕ) → IsLine line → whole_lines (line ++ 10 ∷ rest) ≡ line ∷ whole_lines rest
whole_lines-line [] rest h = refl
whole_lines-line (b ∷ bs) rest h =
    let parts = or_parts (b == 10) (list_any (λ c. c == 10) bs) h in
    rw (parts.0, whole_lines-line bs rest parts.1) refl

-- it leaves nothing unfinished before what follows
pub unfinished-line : (line rest : List ℕ) → unfinished (line ++ 10 ∷ rest) ≡ unfinished rest
unfinished-line [] rest = refl
unfinished-line (b ∷ bs) rest =
    let has : list_any (λ c. c == 10) (bs ++ 10 ∷ rest) ≡ true = list_any-append (λ c. c == 10) bs (10 ∷ rest) ∙ or_right _ _ refl in
    rw (or_right (b == 10) _ has) (unfinished-line bs rest)

-- a text with no byte 10 has no whole line
pub whole_lines-last : (text : List ℕ) → IsLine text → whole_lines text ≡ []
whole_lines-last [] h = refl
whole_lines-last (b ∷ bs) h =
    let parts = or_parts (b == 10) (list_any (λ c. c == 10) bs) h in
    rw (parts.0, whole_lines-last bs parts.1) refl

-- all of it is unfinished
pub unfinished-last : (text : List ℕ) → IsLine text → unfinished text ≡ text
unfinished-last [] h = refl
unfinished-last (b ∷ bs) h = rw h refl

-- no line has a byte 10
abbrev pub EachLine : List (List ℕ) → Type 0
EachLine lines = AllByRecursion IsLine lines

-- lines in front, and lines behind
pub each_front : (front back : List (List ℕ)) → EachLine (front ++ back) → EachLine front
each_front [] back each = tt
each_front (line ∷ front) back each = (each.0, each_front front back each.1)

pub each_back : (front back : List (List ℕ)) → EachLine (front ++ back) → EachLine back
each_back [] back each = each
each_back (line ∷ front) back each = each_back front back each.1

-- the whole lines of a text are lines, and what is unfinished has no byte 10 either
each_onto_first : (b : ℕ) (lines : List (List ℕ)) → (b == 10) ≡ false → EachLine lines → EachLine (onto_first b lines)
each_onto_first b [] not each = tt
each_onto_first b (line ∷ lines) not each = (or_from (b == 10) (list_any (λ c. c == 10) line) not each.0, each.1)

pub lines_are_lines : (text : List ℕ) → EachLine (whole_lines text)
lines_are_lines [] = tt
lines_are_lines (b ∷ bs) =
    elim (cases_Bool (b == 10)) [
      | inl h ↦ rw h (refl, lines_are_lines bs)
      | inr h ↦ rw h (each_onto_first b (whole_lines bs) h (lines_are_lines bs))
    ]

pub unfinished_is_line : (text : List ℕ) → IsLine (unfinished text)
unfinished_is_line [] = refl
unfinished_is_line (b ∷ bs) =
    elim (cases_Bool (list_any (λ c. c == 10) (b ∷ bs))) [
      | inl more ↦ rw more (unfinished_is_line bs)
      | inr none ↦ rw none none
    ]

-- a text is its whole lines and what follows them
front_line : (b : ℕ) (lines : List (List ℕ)) (rest bs : List ℕ) → (some : (line : List ℕ) × ((others : List (List ℕ)) × (lines ≡ line ∷ others))) → text_of_lines lines ++ rest ≡ bs → text_of_lines (onto_first b lines) ++ rest ≡ b ∷ bs
front_line b [] rest bs some e = absurd cc
front_line b (line ∷ lines) rest bs some e = ap (λ (t : List ℕ). b ∷ t) e

some_line : (bs : List ℕ) → list_any (λ c. c == 10) bs ≡ true → (line : List ℕ) × ((others : List (List ℕ)) × (whole_lines bs ≡ line ∷ others))
some_line [] h = absurd cc
some_line (b ∷ bs) h =
    elim (cases_Bool (b == 10)) [
      | inl ten ↦ rw ten ([], (whole_lines bs, refl))
      | inr not ↦
          let rest : list_any (λ c. c == 10) bs ≡ true = rw not at h in
          let found = some_line bs rest in
          rw (not, found.1.1) (b ∷ found.0, (found.1.0, refl))
    ]

pub parts_of_text : (text : List ℕ) → text_of_lines (whole_lines text) ++ unfinished text ≡ text
parts_of_text [] = refl
parts_of_text (b ∷ bs) =
    elim (cases_Bool (b == 10)) [
      | inl ten ↦
          let is : b ≡ 10 = eqb-true b 10 ten in
          rw ten (ap (λ (t : List ℕ). 10 ∷ t) (parts_of_text bs) ∙ ap (λ (c : ℕ). c ∷ bs) (sym is))
      | inr not ↦
          elim (cases_Bool (list_any (λ c. c == 10) bs)) [
            | inl more ↦ rw (not, more) (front_line b (whole_lines bs) (unfinished bs) bs (some_line bs more) (parts_of_text bs))
            | inr none ↦ rw (not, none, whole_lines-last bs none) refl
          ]
    ]

-- a line and others, and what follows them
text-line : (line : List ℕ) (lines : List (List ℕ)) (rest : List ℕ) → text_of_lines (line ∷ lines) ++ rest ≡ line ++ 10 ∷ (text_of_lines lines ++ rest)
text-line line lines rest = append_assoc (line ++ 10 ∷ []) (text_of_lines lines) rest ∙ append_assoc line (10 ∷ []) (text_of_lines lines ++ rest)

-- lines in front of a text are its first whole lines
pub whole_lines-lines : (lines : List (List ℕ)) (rest : List ℕ) → EachLine lines → whole_lines (text_of_lines lines ++ rest) ≡ lines ++ whole_lines rest
whole_lines-lines [] rest each = refl
whole_lines-lines (line ∷ lines) rest each =
    ap whole_lines (text-line line lines rest) ∙ (whole_lines-line line (text_of_lines lines ++ rest) each.0 ∙ ap (λ (others : List (List ℕ)). line ∷ others) (whole_lines-lines lines rest each.1))

-- they leave nothing unfinished before what follows
pub unfinished-lines : (lines : List (List ℕ)) (rest : List ℕ) → unfinished (text_of_lines lines ++ rest) ≡ unfinished rest
unfinished-lines [] rest = refl
unfinished-lines (line ∷ lines) rest =
    ap unfinished (text-line line lines rest) ∙ (unfinished-line line (text_of_lines lines ++ rest) ∙ unfinished-lines lines rest)

-- lines that a text is made of are its whole lines
pub lines_of_text : (lines : List (List ℕ)) → EachLine lines → whole_lines (text_of_lines lines) ≡ lines
lines_of_text lines each = ap whole_lines (sym (append-nil (text_of_lines lines))) ∙ (whole_lines-lines lines [] each ∙ append-nil lines)

-- nothing of it is unfinished
pub unfinished_of_text : (lines : List (List ℕ)) → unfinished (text_of_lines lines) ≡ []
unfinished_of_text lines = ap unfinished (sym (append-nil (text_of_lines lines))) ∙ unfinished-lines lines []
