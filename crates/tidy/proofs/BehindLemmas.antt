-- What is known of a line, and the place behind it.
use Rattle.std.proofs.Common.{◌≡◌, ℕ, Bool, true, false, not, ◌||◌, ◌==◌, List, [], ◌∷◌, ◌++◌, refl, sym, ap, ap₂, subst, ◌∙◌, inl, inr, codes, append-nil, if◌then◌else◌}
use Rattle.std.specs.Str.{bytes_eq}
use Rattle.std.proofs.lemmas.Bool.{cases_Bool, or_parts, or_from, eqb-true, false≢true}
use Rattle.base.specs.Decimals.{is_nothing, is_digit}
use Rattle.tidy.specs.declared.place.Place.{Place}
use Rattle.tidy.specs.declared.place.Place.TheVariants as place
use Rattle.tidy.specs.declared.line.Said.{Said}
use Rattle.tidy.specs.declared.line.Said.TheVariants as said
use Rattle.tidy.specs.declared.line.Word.{Word}
use Rattle.tidy.specs.declared.line.Word.TheVariants as word
use Rattle.tidy.specs.declared.line.Line.{Line}
use Rattle.tidy.specs.declared.line.Line.TheVariants as line
use Rattle.tidy.specs.Words.{is_gap, plain, begins_with, begins_digit}
use Rattle.tidy.specs.Tidied.{Stand, is_progress, behind_words}
use Rattle.tidy.specs.Steps.{said_first, said_more, spelled, spelled_line, later, first_kept, first_in_front, first_line, first_place, line_more, place_more, new_line}
use Rattle.tidy.proofs.WordLemmas.{in_word, in_gap, plain_blank, in_word_byte, in_gap_byte, plain_byte, digit_behind}

abbrev pub standing : ℕ → Place → Stand
standing k p = record { skip = k; place = p }

-- words as those of a line that is known so, of which these bytes are left
abbrev pub words_left : Line → List ℕ → List ℕ
words_left line.Empty bytes = plain bytes
words_left line.Copied bytes = 59 ∷ []
words_left line.Gone bytes = 59 ∷ []
words_left line.Held bytes = 117 ∷ in_word place.Front word.First bytes
words_left (line.Kept s w false) bytes = spelled s ++ in_word place.Front w bytes
words_left (line.Kept s w true) bytes = spelled s ++ in_gap place.Front w bytes

-- `u` is held back in front of a status line alone
abbrev is_held : Line → Bool
is_held line.Held = true
is_held l = false

abbrev is_front : Place → Bool
is_front place.Front = true
is_front place.Between = true
is_front p = false

abbrev pub fits : Place → Line → Bool
fits p l = not (is_held l) || is_front p

-- ---- words that no place asks for

record IsOther (words : List ℕ) : Type 0 where
  pub some : is_nothing words ≡ false
  pub comment : begins_with 59 words ≡ false
  pub c : begins_with 99 words ≡ false
  pub progress : is_progress words ≡ false
  pub sat : bytes_eq words (codes "sat") ≡ false
  pub one : bytes_eq words (codes "1") ≡ false
  pub dot : bytes_eq words (codes ".") ≡ false

other_words : (k : ℕ) (p : Place) (xs ys : List ℕ) → IsOther xs → IsOther ys → behind_words (standing k p) xs ≡ behind_words (standing k p) ys
other_words k place.Front xs ys o q = rw (o.some, o.comment, o.progress, o.sat, o.one, q.some, q.comment, q.progress, q.sat, q.one) refl
other_words k place.Between xs ys o q = rw (o.some, o.comment, o.c, o.progress, o.sat, o.one, q.some, q.comment, q.c, q.progress, q.sat, q.one) refl
other_words k place.Claims xs ys o q = rw (o.some, o.comment, q.some, q.comment) refl
other_words k place.BitClaim xs ys o q = rw (o.some, q.some) refl
other_words k place.Initial xs ys o q = refl
other_words k place.First xs ys o q = rw (o.some, o.dot, q.some, q.dot) refl
other_words k place.Passed xs ys o q = refl
other_words k place.Over xs ys o q = refl
other_words k p xs ys o q = rw (o.dot, q.dot) refl

asked : (xs : List ℕ) → IsOther (63 ∷ xs)
asked xs = record { some = refl; comment = refl; c = refl; progress = refl; sat = refl; one = refl; dot = refl }

-- ---- words with a byte more

-- behind words that no space is behind
said_step : (k : ℕ) (p : Place) (s : Said) (b : ℕ) (xs : List ℕ) → behind_words (standing k p) (spelled s ++ b ∷ xs) ≡ behind_words (standing k p) (spelled (said_more s b) ++ xs)
said_step k p said.S b xs =
    elim (cases_Bool (b == 97)) [
      | inl a ↦ rw a (ap (λ (c : ℕ). behind_words (standing k p) (115 ∷ c ∷ xs)) (eqb-true b 97 a))
      | inr other ↦
          rw other
          (other_words k p (115 ∷ b ∷ xs) (63 ∷ xs) (record { some = refl; comment = refl; c = refl; progress = refl; sat = rw other refl; one = refl; dot = refl }) (asked xs))
    ]
said_step k p said.Sa b xs =
    elim (cases_Bool (b == 116)) [
      | inl t ↦ rw t (ap (λ (c : ℕ). behind_words (standing k p) (115 ∷ 97 ∷ c ∷ xs)) (eqb-true b 116 t))
      | inr other ↦
          rw other
          (other_words k p (115 ∷ 97 ∷ b ∷ xs) (63 ∷ xs) (record { some = refl; comment = refl; c = refl; progress = refl; sat = rw other refl; one = refl; dot = refl }) (asked xs))
    ]
said_step k p s b xs = other_words k p (spelled s ++ b ∷ xs) (63 ∷ xs) (record { some = refl; comment = refl; c = refl; progress = refl; sat = refl; one = refl; dot = refl }) (asked xs)

-- behind a space
gap_said : (k : ℕ) (p : Place) (s : Said) (xs : List ℕ) → behind_words (standing k p) (spelled s ++ 32 ∷ xs) ≡ behind_words (standing k p) (63 ∷ xs)
gap_said k p said.S xs = said_step k p said.S 32 xs
gap_said k p s xs = said_step k p s 32 xs

-- the line with a byte more has words that are as good
abbrev Keeps : ℕ → Place → Line → ℕ → List ℕ → Type 0
Keeps k p l b bs = behind_words (standing k p) (words_left l (b ∷ bs)) ≡ behind_words (standing k (place_more p l b)) (words_left (line_more p l b) bs)

word_keeps : (k : ℕ) (p : Place) (s : Said) (w : Word) (b : ℕ) (bs : List ℕ) → Keeps k p (line.Kept s w false) b bs
word_keeps k p s w b bs =
    elim (cases_Bool (is_gap b)) [
      | inl blank ↦ rw blank refl
      | inr byte ↦
          ap (λ (l : List ℕ). behind_words (standing k p) (spelled s ++ l)) (in_word_byte place.Front w b bs byte)
          ∙ rw byte (said_step k p s b (in_word place.Front w bs))
    ]

gap_keeps : (k : ℕ) (p : Place) (s : Said) (w : Word) (b : ℕ) (bs : List ℕ) → Keeps k p (line.Kept s w true) b bs
gap_keeps k p s w b bs =
    elim (cases_Bool (is_gap b)) [
      | inl blank ↦ rw blank refl
      | inr byte ↦
          ap (λ (l : List ℕ). behind_words (standing k p) (spelled s ++ l)) (in_gap_byte place.Front w b bs byte)
          ∙ (gap_said k p s (b ∷ in_word place.Front (later w) bs)
          ∙ rw byte (said_step k p said.Other b (in_word place.Front (later w) bs)))
    ]

-- ---- behind `u`

-- words `u` with no digit behind
u_other : (k : ℕ) (p : Place) (xs : List ℕ) → begins_digit xs ≡ false → behind_words (standing k p) (117 ∷ xs) ≡ behind_words (standing k p) (63 ∷ xs)
u_other k p xs none = other_words k p (117 ∷ xs) (63 ∷ xs) (record { some = refl; comment = refl; c = refl; progress = none; sat = refl; one = refl; dot = refl }) (asked xs)

u_digit : (k : ℕ) (p : Place) (xs : List ℕ) → fits p line.Held ≡ true → begins_digit xs ≡ true → behind_words (standing k p) (117 ∷ xs) ≡ behind_words (standing k p) (59 ∷ [])
u_digit k place.Front xs f digit = rw digit refl
u_digit k place.Between xs f digit = rw digit refl
u_digit k p xs f digit = absurd (false≢true f)

held_keeps : (k : ℕ) (p : Place) (b : ℕ) (bs : List ℕ) → fits p line.Held ≡ true → Keeps k p line.Held b bs
held_keeps k p b bs f =
    elim (cases_Bool (is_digit b)) [
      | inl digit ↦ rw digit (u_digit k p (in_word place.Front word.First (b ∷ bs)) f (digit_behind place.Front word.First b bs refl ∙ digit))
      | inr other ↦
          u_other k p (in_word place.Front word.First (b ∷ bs)) (digit_behind place.Front word.First b bs refl ∙ other)
          ∙ elim (cases_Bool (is_gap b)) [
            | inl blank ↦ rw (other, blank) refl
            | inr byte ↦
                ap (λ (l : List ℕ). behind_words (standing k p) (63 ∷ l)) (in_word_byte place.Front word.First b bs byte)
                ∙ rw (other, byte) (said_step k p said.Other b (in_word place.Front word.First bs))
          ]
    ]

-- ---- the first byte

-- a byte that a place asks for
abbrev is_asked : Place → ℕ → Bool
is_asked place.Front b = (b == 59) || (b == 117)
is_asked place.Between b = (b == 99) || ((b == 59) || (b == 117))
is_asked place.Claims b = b == 59
is_asked place.Parts b = b == 59
is_asked _ b = false

-- none that begins words of a status line or an end
record IsNone (b : ℕ) : Type 0 where
  pub s : (b == 115) ≡ false
  pub one : (b == 49) ≡ false
  pub dot : (b == 46) ≡ false

none_first : (k : ℕ) (p : Place) (b : ℕ) (xs : List ℕ) → is_asked p b ≡ false → IsNone b → behind_words (standing k p) (b ∷ xs) ≡ behind_words (standing k p) (63 ∷ xs)
none_first k place.Front b xs free n = let parts = or_parts (b == 59) _ free in rw (parts.0, parts.1, n.s, n.one) refl
none_first k place.Between b xs free n =
    let c = or_parts (b == 99) _ free in
    let parts = or_parts (b == 59) _ c.1 in
    rw (c.0, parts.0, parts.1, n.s, n.one) refl
none_first k place.Claims b xs free n = rw free refl
none_first k place.BitClaim b xs free n = refl
none_first k place.Initial b xs free n = refl
none_first k place.Passed b xs free n = refl
none_first k place.Over b xs free n = refl
none_first k p b xs free n = rw n.dot refl

abbrev Begins : ℕ → Place → List ℕ → ℕ → Type 0
Begins k p xs b = behind_words (standing k p) (b ∷ xs) ≡ behind_words (standing k p) (spelled (said_first b) ++ xs)

kept_first : (k : ℕ) (p : Place) (b : ℕ) (xs : List ℕ) → is_asked p b ≡ false → Begins k p xs b
kept_first k p b xs free =
    elim (cases_Bool (b == 115)) [
      | inl s ↦ subst (Begins k p xs) (sym (eqb-true b 115 s)) refl
      | inr not_s ↦
          elim (cases_Bool (b == 49)) [
            | inl one ↦ subst (Begins k p xs) (sym (eqb-true b 49 one)) refl
            | inr not_one ↦
                elim (cases_Bool (b == 46)) [
                  | inl dot ↦ subst (Begins k p xs) (sym (eqb-true b 46 dot)) refl
                  | inr not_dot ↦
                      let other : said_first b ≡ said.Other = rw (not_s, not_one, not_dot) refl in
                      none_first k p b xs free (record { s = not_s; one = not_one; dot = not_dot }) ∙ sym (ap (λ (s : Said). behind_words (standing k p) (spelled s ++ xs)) other)
                ]
          ]
    ]

-- a line that begins so at a place
abbrev FirstKeeps : ℕ → Place → List ℕ → Line → ℕ → Type 0
FirstKeeps k p bs l b = behind_words (standing k p) (b ∷ in_word place.Front word.First bs) ≡ behind_words (standing k p) (words_left l bs)

first_kept_keeps : (k : ℕ) (p : Place) (b : ℕ) (bs : List ℕ) (l : Line) → l ≡ first_kept b → is_asked p b ≡ false → FirstKeeps k p bs l b
first_kept_keeps k p b bs l is free = kept_first k p b (in_word place.Front word.First bs) free ∙ sym (ap (λ (m : Line). behind_words (standing k p) (words_left m bs)) is)

abbrev TakesComments : ℕ → Place → Type 0
TakesComments k p = (xs : List ℕ) → behind_words (standing k p) (59 ∷ xs) ≡ behind_words (standing k p) (59 ∷ [])

comment_keeps : (k : ℕ) (p : Place) (b : ℕ) (bs : List ℕ) (l : Line) → words_left l bs ≡ 59 ∷ [] → (b == 59) ≡ true → TakesComments k p → FirstKeeps k p bs l b
comment_keeps k p b bs l is semicolon takes =
    ap (λ (c : ℕ). behind_words (standing k p) (c ∷ in_word place.Front word.First bs)) (eqb-true b 59 semicolon)
    ∙ (takes (in_word place.Front word.First bs) ∙ sym (ap (behind_words (standing k p)) is))

u_keeps : (k : ℕ) (p : Place) (b : ℕ) (bs : List ℕ) (l : Line) → l ≡ line.Held → (b == 117) ≡ true → FirstKeeps k p bs l b
u_keeps k p b bs l is u =
    ap (λ (c : ℕ). behind_words (standing k p) (c ∷ in_word place.Front word.First bs)) (eqb-true b 117 u) ∙ sym (ap (λ (m : Line). behind_words (standing k p) (words_left m bs)) is)

front_first : (k : ℕ) (p : Place) (b : ℕ) (bs : List ℕ) → (((b == 59) || (b == 117)) ≡ false → is_asked p b ≡ false) → TakesComments k p → FirstKeeps k p bs (first_in_front b) b
front_first k p b bs free takes =
    elim (cases_Bool (b == 59)) [
      | inl semicolon ↦
          let is : first_in_front b ≡ line.Copied = rw semicolon refl in
          comment_keeps k p b bs (first_in_front b) (ap (λ (l : Line). words_left l bs) is) semicolon takes
      | inr other ↦
          elim (cases_Bool (b == 117)) [
            | inl u ↦ u_keeps k p b bs (first_in_front b) (rw (other, u) refl) u
            | inr kept ↦ first_kept_keeps k p b bs (first_in_front b) (rw (other, kept) refl) (free (or_from (b == 59) (b == 117) other kept))
          ]
    ]

-- behind the status line of words
words_first : (k : ℕ) (p : Place) (b : ℕ) (bs : List ℕ) (l : Line) → l ≡ (if b == 59 then line.Gone else first_kept b) → ((b == 59) ≡ false → is_asked p b ≡ false) → TakesComments k p → FirstKeeps k p bs l b
words_first k p b bs l is free takes =
    elim (cases_Bool (b == 59)) [
      | inl semicolon ↦
          let gone : (if b == 59 then line.Gone else first_kept b) ≡ line.Gone = rw semicolon refl in
          comment_keeps k p b bs l (ap (λ (m : Line). words_left m bs) (is ∙ gone)) semicolon takes
      | inr other ↦
          let kept : (if b == 59 then line.Gone else first_kept b) ≡ first_kept b = rw other refl in
          first_kept_keeps k p b bs l (is ∙ kept) (free other)
    ]

first_keeps : (k : ℕ) (p : Place) (b : ℕ) (bs : List ℕ) → behind_words (standing k p) (b ∷ in_word place.Front word.First bs) ≡ behind_words (standing k (first_place p b)) (words_left (first_line p b) bs)
first_keeps k place.Front b bs = front_first k place.Front b bs (λ h. h) (λ xs. refl)
first_keeps k place.Between b bs =
    elim (cases_Bool (b == 99)) [
      | inl c ↦ rw c refl
      | inr other ↦
          let at_place : first_place place.Between b ≡ place.Between = rw other refl in
          let is : first_line place.Between b ≡ first_in_front b = rw other refl in
          front_first k place.Between b bs (λ h. or_from (b == 99) _ other h) (λ xs. refl)
          ∙ sym (ap₂ (λ (q : Place) (l : Line). behind_words (standing k q) (words_left l bs)) at_place is)
    ]
first_keeps k place.Claims b bs = words_first k place.Claims b bs (first_line place.Claims b) refl (λ h. h) (λ xs. refl)
first_keeps k place.Parts b bs = words_first k place.Parts b bs (first_line place.Parts b) refl (λ h. h) (λ xs. refl)
first_keeps k p b bs = kept_first k p b (in_word place.Front word.First bs) refl

empty_keeps : (k : ℕ) (p : Place) (b : ℕ) (bs : List ℕ) → Keeps k p line.Empty b bs
empty_keeps k p b bs =
    elim (cases_Bool (is_gap b)) [
      | inl blank ↦ ap (behind_words (standing k p)) (plain_blank b bs blank) ∙ rw blank refl
      | inr byte ↦ ap (behind_words (standing k p)) (plain_byte place.Front b bs (λ w. refl) byte) ∙ rw byte (first_keeps k p b bs)
    ]

pub keeps : (k : ℕ) (p : Place) (l : Line) (b : ℕ) (bs : List ℕ) → fits p l ≡ true → Keeps k p l b bs
keeps k p line.Empty b bs f = empty_keeps k p b bs
keeps k p line.Copied b bs f = refl
keeps k p line.Gone b bs f = refl
keeps k p line.Held b bs f = held_keeps k p b bs f
keeps k p (line.Kept s w false) b bs f = word_keeps k p s w b bs
keeps k p (line.Kept s w true) b bs f = gap_keeps k p s w b bs

-- ---- `u` is held back in front of a status line alone

either_fits : (p : Place) (b : Bool) (l m : Line) → fits p l ≡ true → fits p m ≡ true → fits p (if b then l else m) ≡ true
either_fits p true l m f g = f
either_fits p false l m f g = g

front_fits : (p : Place) (b : ℕ) → is_front p ≡ true → fits p (first_in_front b) ≡ true
front_fits p b f = either_fits p (b == 59) line.Copied (if b == 117 then line.Held else first_kept b) refl (either_fits p (b == 117) line.Held (first_kept b) f refl)

first_fits : (p : Place) (b : ℕ) → fits (first_place p b) (first_line p b) ≡ true
first_fits place.Front b = front_fits place.Front b refl
first_fits place.Between b =
    elim (cases_Bool (b == 99)) [ inl c ↦ rw c refl | inr other ↦ rw other (front_fits place.Between b refl) ]
first_fits place.Claims b = either_fits place.Claims (b == 59) line.Gone (first_kept b) refl refl
first_fits place.Parts b = either_fits place.Parts (b == 59) line.Gone (first_kept b) refl refl
first_fits p b = refl

pub fits_more : (p : Place) (l : Line) (b : ℕ) → fits (place_more p l b) (line_more p l b) ≡ true
fits_more p line.Empty b = elim (cases_Bool (is_gap b)) [ inl blank ↦ rw blank refl | inr byte ↦ rw byte (first_fits p b) ]
fits_more p line.Copied b = refl
fits_more p line.Gone b = refl
fits_more p line.Held b = either_fits p (is_digit b) line.Gone (line.Kept said.Other word.First (is_gap b)) refl refl
fits_more p (line.Kept s w false) b = either_fits p (is_gap b) (line.Kept s w true) (line.Kept (said_more s b) w false) refl refl
fits_more p (line.Kept s w true) b = either_fits p (is_gap b) (line.Kept s w true) (line.Kept said.Other (later w) false) refl refl

pub new_fits : (p : Place) → fits p (new_line p) ≡ true
new_fits place.Front = refl
new_fits p = refl

-- ---- no byte, and none known

pub nothing_left : (l : Line) → spelled_line l ≡ words_left l []
nothing_left (line.Kept s w false) = sym (append-nil (spelled s))
nothing_left (line.Kept s w true) = sym (append-nil (spelled s))
nothing_left l = refl

pub new_words : (k : ℕ) (p : Place) (bytes : List ℕ) → behind_words (standing k p) (words_left (new_line p) bytes) ≡ behind_words (standing k p) (plain bytes)
new_words k place.Front bytes = refl
new_words k p bytes = refl
