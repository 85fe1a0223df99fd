-- A byte of a line: what it writes, and what it says of the place behind the line.
use Rattle.std.proofs.Common.{◌≡◌, ℕ, true, false, ◌==◌, List, [], ◌∷◌, ◌++◌, Option, Some, None, map, refl, ap, ◌∙◌, append-nil, inl, inr, if◌then◌else◌}
use Rattle.std.proofs.lemmas.Bool.{cases_Bool, eqb-true}
use Rattle.base.specs.Decimals.{is_nothing, is_digit}
use Rattle.tidy.specs.declared.place.Place.{Place}
use Rattle.tidy.specs.declared.place.Place.TheVariants as place
use Rattle.tidy.specs.declared.line.Said.{Said}
use Rattle.tidy.specs.declared.line.Word.{Word}
use Rattle.tidy.specs.declared.line.Word.TheVariants as word
use Rattle.tidy.specs.declared.line.Line.{Line}
use Rattle.tidy.specs.declared.line.Line.TheVariants as line
use Rattle.tidy.specs.Words.{is_gap, word_pieces, words, plain, begins_with, begins_digit}
use Rattle.tidy.specs.Tidied.{front_line, tidied_line, closed_by, zero_x}
use Rattle.tidy.specs.Steps.{takes_x, changed, first_in_front, first_line, first_place, first_bytes, line_more, place_more, bytes_more, held_bytes, is_kept, new_line}
use Rattle.tidy.proofs.WordLemmas.{in_word, in_gap, IsPlain, words_blank, plain_blank, unindented_blank, unindented_byte, all_words_byte, next_of, behind_gap, joined_zero, joined_value, plain_byte, digit_behind}

-- ---- what is written

-- of the bytes that are left of a line of which there are blanks alone; a place whose lines never are so is taken as another
abbrev empty_left : Place → List ℕ → Option (List ℕ)
empty_left place.Passed bytes = tidied_line place.BitClaim bytes
empty_left place.Over bytes = tidied_line place.BitClaim bytes
empty_left p bytes = tidied_line p bytes

abbrev held_left : Place → List ℕ → Option (List ℕ)
held_left p [] = Some (117 ∷ [])
held_left p (b ∷ bs) = if is_digit b then None else Some (117 ∷ in_word p word.First (b ∷ bs))

-- of those that are left of a line that is known so
abbrev pub left_of : Place → Line → List ℕ → Option (List ℕ)
left_of p line.Empty bytes = empty_left p bytes
left_of p line.Copied bytes = Some bytes
left_of p line.Gone bytes = None
left_of p line.Held bytes = held_left p bytes
left_of p (line.Kept s w false) bytes = Some (in_word p w bytes)
left_of p (line.Kept s w true) bytes = Some (in_gap p w bytes)

-- the line with a byte more writes what is said
abbrev Steps : List ℕ → Place → Line → ℕ → List ℕ → Type 0
Steps e p l b bs = closed_by e (left_of p l (b ∷ bs)) ≡ bytes_more p l b ++ closed_by e (left_of (place_more p l b) (line_more p l b) bs)

-- a blank behind blanks
blank_left : (p : Place) (b : ℕ) (bs : List ℕ) → is_gap b ≡ true → empty_left p (b ∷ bs) ≡ empty_left p bs
blank_left place.Front b bs h = rw (plain_blank b bs h, unindented_blank b bs h) refl
blank_left place.Between b bs h = rw (plain_blank b bs h, unindented_blank b bs h) refl
blank_left place.Parts b bs h = rw (plain_blank b bs h, words_blank b bs h) refl
blank_left p b bs h = rw (plain_blank b bs h) refl

-- a first byte
zero_first : (p : Place) (b : ℕ) (bs : List ℕ) → ((w : Word) → takes_x p w ≡ true) → is_gap b ≡ false → map zero_x (plain (b ∷ bs)) ≡ changed p word.First b ∷ in_word p word.First bs
zero_first p b bs h byte = joined_zero p (words (b ∷ bs)) h ∙ all_words_byte p b bs byte

held_first : (e : List ℕ) (p : Place) (bs : List ℕ) → IsPlain p → closed_by e (if begins_digit (in_word p word.First bs) then None else Some (117 ∷ in_word p word.First bs)) ≡ closed_by e (held_left p bs)
held_first e p [] h = refl
held_first e p (b ∷ bs) h = rw (digit_behind p word.First b bs (h word.First)) refl

-- in front of a status line
front_first : (e : List ℕ) (p : Place) (b : ℕ) (bs : List ℕ) → IsPlain p → is_gap b ≡ false
    → closed_by e (front_line (b ∷ bs)) ≡ first_bytes p b (first_in_front b) ++ closed_by e (left_of p (first_in_front b) bs)
front_first e p b bs h byte =
    rw (plain_byte p b bs h byte, unindented_byte b bs byte)
    (elim (cases_Bool (b == 59)) [
      | inl semicolon ↦ rw semicolon refl
      | inr other ↦
          elim (cases_Bool (b == 117)) [
            | inl u ↦ rw (other, u, eqb-true b 117 u) (held_first e p bs h)
            | inr kept ↦ rw (other, kept, h word.First) refl
          ]
    ])

first_left : (e : List ℕ) (p : Place) (b : ℕ) (bs : List ℕ) → is_gap b ≡ false
    → closed_by e (empty_left p (b ∷ bs)) ≡ first_bytes p b (first_line p b) ++ closed_by e (left_of (first_place p b) (first_line p b) bs)
first_left e place.Front b bs byte = front_first e place.Front b bs (λ w. refl) byte
first_left e place.Between b bs byte =
    elim (cases_Bool (b == 99)) [
      | inl c ↦ rw (plain_byte place.Between b bs (λ w. refl) byte, c) refl
      | inr other ↦
          rw other
          (rw (ap (begins_with 99) (plain_byte place.Between b bs (λ w. refl) byte) ∙ other) (front_first e place.Between b bs (λ w. refl) byte))
    ]
first_left e place.Claims b bs byte =
    elim (cases_Bool (b == 59)) [
      | inl semicolon ↦ rw (plain_byte place.Claims b bs (λ w. refl) byte, semicolon) refl
      | inr other ↦ rw (plain_byte place.Claims b bs (λ w. refl) byte, other) refl
    ]
first_left e place.Parts b bs byte =
    elim (cases_Bool (b == 59)) [
      | inl semicolon ↦ rw (plain_byte place.Front b bs (λ w. refl) byte, semicolon) refl
      | inr other ↦
          rw (plain_byte place.Front b bs (λ w. refl) byte, other)
          (ap (λ (l : List ℕ). l ++ e) (joined_value (words (b ∷ bs)) ∙ all_words_byte place.Parts b bs byte))
    ]
first_left e place.Initial b bs byte = ap (λ (l : List ℕ). l ++ e) (zero_first place.Initial b bs (λ w. refl) byte)
first_left e place.First b bs byte = ap (λ (l : List ℕ). l ++ e) (zero_first place.First b bs (λ w. refl) byte)
first_left e place.Frames b bs byte =
    rw (ap is_nothing (plain_byte place.Front b bs (λ w. refl) byte)) (ap (λ (l : List ℕ). l ++ e) (zero_first place.Frames b bs (λ w. refl) byte))
first_left e place.Empties b bs byte = ap (λ (l : List ℕ). l ++ e) (zero_first place.Empties b bs (λ w. refl) byte)
first_left e p b bs byte = rw (plain_byte p b bs (λ w. refl) byte) refl

-- a byte behind `u`, and behind words
held_step : (e : List ℕ) (p : Place) (b : ℕ) (bs : List ℕ) → Steps e p line.Held b bs
held_step e p b bs =
    elim (cases_Bool (is_digit b)) [
      | inl digit ↦ rw digit refl
      | inr other ↦
          elim (cases_Bool (is_gap b)) [
            | inl blank ↦ rw (other, blank) refl
            | inr byte ↦ rw (other, byte, next_of p word.First b (word_pieces bs)) refl
          ]
    ]

word_step : (e : List ℕ) (p : Place) (s : Said) (w : Word) (b : ℕ) (bs : List ℕ) → Steps e p (line.Kept s w false) b bs
word_step e p s w b bs =
    elim (cases_Bool (is_gap b)) [
      | inl blank ↦ rw blank refl
      | inr byte ↦ rw (byte, next_of p w b (word_pieces bs)) refl
    ]

gap_step : (e : List ℕ) (p : Place) (s : Said) (w : Word) (b : ℕ) (bs : List ℕ) → Steps e p (line.Kept s w true) b bs
gap_step e p s w b bs =
    elim (cases_Bool (is_gap b)) [
      | inl blank ↦ rw blank refl
      | inr byte ↦ rw (byte, behind_gap p w b (word_pieces bs)) refl
    ]

empty_step : (e : List ℕ) (p : Place) (b : ℕ) (bs : List ℕ) → Steps e p line.Empty b bs
empty_step e p b bs =
    elim (cases_Bool (is_gap b)) [
      | inl blank ↦ rw blank (ap (closed_by e) (blank_left p b bs blank))
      | inr byte ↦ rw byte (first_left e p b bs byte)
    ]

pub step : (e : List ℕ) (p : Place) (l : Line) (b : ℕ) (bs : List ℕ) → Steps e p l b bs
step e p line.Empty b bs = empty_step e p b bs
step e p line.Copied b bs = refl
step e p line.Gone b bs = refl
step e p line.Held b bs = held_step e p b bs
step e p (line.Kept s w false) b bs = word_step e p s w b bs
step e p (line.Kept s w true) b bs = gap_step e p s w b bs

-- ---- the end of a line, and of a text

-- what is held back, and these bytes where the end of the line is written
abbrev pub close : List ℕ → Place → Line → List ℕ
close e p l = held_bytes l ++ (if is_kept p l then e else [])

empty_closed : (e : List ℕ) (p : Place) → close e p line.Empty ≡ closed_by e (empty_left p [])
empty_closed e place.Front = refl
empty_closed e p = refl

pub closed : (e : List ℕ) (p : Place) (l : Line) → close e p l ≡ closed_by e (left_of p l [])
closed e p line.Empty = empty_closed e p
closed e p (line.Kept s w false) = refl
closed e p l = refl

-- no end
pub close_none : (p : Place) (l : Line) → close [] p l ≡ held_bytes l
close_none p l = elim (cases_Bool (is_kept p l)) [ inl kept ↦ rw kept (append-nil (held_bytes l)) | inr gone ↦ rw gone (append-nil (held_bytes l)) ]

-- a line of which no byte is known
pub new_left : (p : Place) (bytes : List ℕ) → left_of p (new_line p) bytes ≡ tidied_line p bytes
new_left place.Front bytes = refl
new_left p bytes = refl
