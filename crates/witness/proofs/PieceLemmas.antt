-- Pieces of lines: what stands between spaces, and the digits of words.
use Rattle.std.proofs.Common.{◌≡◌, ℕ, ◌<◌, ◌^◌, ◌==◌, Bool, true, false, ◌&&◌, List, [], ◌∷◌, ◌++◌, Option, Some, None, Ok, length, map, reverse, inl, inr, refl, sym, ap, subst, ◌∙◌}
use Rattle.std.specs.List.{list_any, list_all}
use Rattle.std.proofs.lemmas.Bool.{cases_Bool, and_parts, and_from, or_parts, eqb-true, eq-eqb, ne_eqb, cases_eq}
use Rattle.std.proofs.lemmas.List.{length-map, length-reverse, reverse-reverse}
use Rattle.base.specs.Word.{word, bits}
use Rattle.base.specs.Decimals.{are_digits}
use Rattle.base.proofs.BitLemmas.{length-bits, word_below, word-bits, bits-word_of_length}
use Rattle.witness.specs.Texts.{digit, binary, symbol_part}
use Rattle.std.proofs.lemmas.Result.{IfOk-at_ok}
use Rattle.witness.proofs.ReadingLemmas.{by_test}
use Rattle.base.specs.Lines.{to_first}
use Rattle.witness.specs.Admits.{cut_at_space, between_spaces, is_value_byte, value_of}
use Rattle.witness.proofs.StepWords.{to_front}

-- ---- what stands before the first space

pub cut_at_space-parts : (front : List ℕ) (behind : Option (List ℕ)) → list_any (λ b. b == 32) front ≡ false → cut_at_space (front ++ symbol_part behind) ≡ (front, behind)
cut_at_space-parts [] None none = refl
cut_at_space-parts [] (Some rest) none = refl
cut_at_space-parts (b ∷ bs) behind none =
    let parts = or_parts (b == 32) (list_any (λ c. c == 32) bs) none in
    rw parts.0 (ap (to_front b) (cut_at_space-parts bs behind parts.1))

pub parts_of_cut : (line : List ℕ) → (cut_at_space line).0 ++ symbol_part (cut_at_space line).1 ≡ line
parts_of_cut [] = refl
parts_of_cut (b ∷ bs) =
    elim (cases_Bool (b == 32)) [
      | inl is ↦ rw is (ap (λ (c : ℕ). c ∷ bs) (sym (eqb-true b 32 is)))
      | inr not ↦ rw not (ap (λ (t : List ℕ). b ∷ t) (parts_of_cut bs))
    ]

-- ---- what stands between spaces

pub between_spaces-last : (front : List ℕ) → list_any (λ b. b == 32) front ≡ false → between_spaces front ≡ front ∷ []
between_spaces-last [] none = refl
between_spaces-last (b ∷ bs) none =
    let parts = or_parts (b == 32) (list_any (λ c. c == 32) bs) none in
    rw parts.0 (ap (to_first b) (between_spaces-last bs parts.1))

pub between_spaces-more : (front rest : List ℕ) → list_any (λ b. b == 32) front ≡ false → between_spaces (front ++ 32 ∷ rest) ≡ front ∷ between_spaces rest
between_spaces-more [] rest none = refl
between_spaces-more (b ∷ bs) rest none =
    let parts = or_parts (b == 32) (list_any (λ c. c == 32) bs) none in
    rw parts.0 (ap (to_first b) (between_spaces-more bs rest parts.1))

-- pieces with one space between
abbrev pub with_spaces : List (List ℕ) → List ℕ
with_spaces [] = []
with_spaces (p ∷ []) = p
with_spaces (p ∷ q ∷ more) = p ++ 32 ∷ with_spaces (q ∷ more)

no_first : (b : ℕ) (ps : List (List ℕ)) → to_first b ps ≡ [] → ⊥
no_first b [] e = cc
no_first b (p ∷ ps) e = cc

pub some_piece : (line : List ℕ) → between_spaces line ≡ [] → ⊥
some_piece [] e = cc
some_piece (b ∷ bs) e =
    elim (cases_Bool (b == 32)) [
      | inl is ↦ cc (rw is at e)
      | inr not ↦ no_first b (between_spaces bs) (rw not at e)
    ]

with_spaces-first : (b : ℕ) (ps : List (List ℕ)) → with_spaces (to_first b ps) ≡ b ∷ with_spaces ps
with_spaces-first b [] = refl
with_spaces-first b (p ∷ []) = refl
with_spaces-first b (p ∷ q ∷ more) = refl

with_spaces-empty : (ps : List (List ℕ)) → (ps ≡ [] → ⊥) → with_spaces ([] ∷ ps) ≡ 32 ∷ with_spaces ps
with_spaces-empty [] some = absurd (some refl)
with_spaces-empty (p ∷ ps) some = refl

pub parts_of_line : (line : List ℕ) → with_spaces (between_spaces line) ≡ line
parts_of_line [] = refl
parts_of_line (b ∷ bs) =
    elim (cases_Bool (b == 32)) [
      | inl is ↦ rw is (with_spaces-empty (between_spaces bs) (some_piece bs) ∙ (ap (λ (t : List ℕ). 32 ∷ t) (parts_of_line bs) ∙ ap (λ (c : ℕ). c ∷ bs) (sym (eqb-true b 32 is))))
      | inr not ↦ rw not (with_spaces-first b (between_spaces bs) ∙ ap (λ (t : List ℕ). b ∷ t) (parts_of_line bs))
    ]

-- ---- the digits of a word

digits_are_digits : (bs : List Bool) → are_digits (map digit bs) ≡ true
digits_are_digits [] = refl
digits_are_digits (true ∷ bs) = digits_are_digits bs
digits_are_digits (false ∷ bs) = digits_are_digits bs

pub binary_digits : (width x : ℕ) → are_digits (binary width x) ≡ true
binary_digits width x = digits_are_digits (reverse (bits width x))

pub digits_are_values : (bs : List Bool) → list_all is_value_byte (map digit bs) ≡ true
digits_are_values [] = refl
digits_are_values (true ∷ bs) = digits_are_values bs
digits_are_values (false ∷ bs) = digits_are_values bs

pub digits_determine : (bs : List Bool) → list_any (λ b. b == 120) (map digit bs) ≡ false
digits_determine [] = refl
digits_determine (true ∷ bs) = digits_determine bs
digits_determine (false ∷ bs) = digits_determine bs

pub bits_of_digits : (bs : List Bool) → map (λ b. b == 49) (map digit bs) ≡ bs
bits_of_digits [] = refl
bits_of_digits (true ∷ bs) = ap (λ (more : List Bool). true ∷ more) (bits_of_digits bs)
bits_of_digits (false ∷ bs) = ap (λ (more : List Bool). false ∷ more) (bits_of_digits bs)

-- a word's digits are read as it
pub value_of-binary : (width x : ℕ) → x < 2 ^ width → value_of width (binary width x) ≡ Ok x
unfolding value_of
value_of-binary width x fits =
    let long : length (binary width x) ≡ width = length-map (reverse (bits width x)) digit ∙ (length-reverse (bits width x) ∙ length-bits width x) in
    let whole : ((length (binary width x) == width) && list_all is_value_byte (binary width x)) ≡ true = and_from (length (binary width x) == width) (list_all is_value_byte (binary width x)) (eq-eqb (length (binary width x)) width long) (digits_are_values (reverse (bits width x))) in
    let known : list_any (λ b. b == 120) (binary width x) ≡ false = digits_determine (reverse (bits width x)) in
    let back : word (reverse (map (λ b. b == 49) (binary width x))) ≡ x =
    ap (λ (bs : List Bool). word (reverse bs)) (bits_of_digits (reverse (bits width x))) ∙ (ap word (reverse-reverse (bits width x)) ∙ word-bits width x fits) in
    rw (whole, known) (ap Ok back)

-- bytes that are a word's digits
pub record IsBinary (width : ℕ) (bytes : List ℕ) (x : ℕ) : Type 0 where
  pub spelled : bytes ≡ binary width x
  pub fits : x < 2 ^ width

digit_of_bit : (b : ℕ) → is_value_byte b ≡ true → (b == 120) ≡ false → digit (b == 49) ≡ b
digit_of_bit b is not_x =
    elim (cases_eq b 49) [
      | inl one ↦ rw one refl
      | inr not_one ↦
          elim (cases_eq b 48) [
            | inl none ↦ rw none refl
            | inr not_none ↦ absurd (cc (rw (ne_eqb b 48 not_none, ne_eqb b 49 not_one, not_x) at is))
          ]
    ]

pub digits_of_bits : (bytes : List ℕ) → list_all is_value_byte bytes ≡ true → list_any (λ b. b == 120) bytes ≡ false → map digit (map (λ b. b == 49) bytes) ≡ bytes
digits_of_bits [] all none = refl
digits_of_bits (b ∷ bs) all none =
    let is = and_parts (is_value_byte b) (list_all is_value_byte bs) all in
    let not_x = or_parts (b == 120) (list_any (λ c. c == 120) bs) none in
    let first = digit_of_bit b is.0 not_x.0 in
    let others = digits_of_bits bs is.1 not_x.1 in
    cc

bytes_are_digits : (width : ℕ) (bytes : List ℕ) → length bytes ≡ width → list_all is_value_byte bytes ≡ true → list_any (λ b. b == 120) bytes ≡ false → IsBinary width bytes (word (reverse (map (λ b. b == 49) bytes)))
bytes_are_digits width bytes long all none =
    let read : List Bool = reverse (map (λ b. b == 49) bytes) in
    let as_long : length read ≡ width = length-reverse (map (λ b. b == 49) bytes) ∙ (length-map bytes (λ b. b == 49) ∙ long) in
    record {
      spelled = sym (ap (λ (bs : List Bool). map digit (reverse bs)) (bits-word_of_length width read as_long) ∙ (ap (map digit) (reverse-reverse (map (λ b. b == 49) bytes)) ∙ digits_of_bits bytes all none));
      fits = subst (λ (n : ℕ). word read < 2 ^ n) as_long (word_below read);
    }

-- bytes that are read as a word are its digits
pub value_is_binary : (width : ℕ) (bytes : List ℕ) (x : ℕ) → value_of width bytes ≡ Ok x → IsBinary width bytes x
unfolding value_of
value_is_binary width bytes x h =
    IfOk-at_ok (IsBinary width bytes) h
    (by_test (IsBinary width bytes) ((length bytes == width) && list_all is_value_byte bytes) _ _
    (λ e.
    let parts = and_parts (length bytes == width) (list_all is_value_byte bytes) e in
    by_test (IsBinary width bytes) (list_any (λ b. b == 120) bytes) _ _ (λ d. tt) (λ d. bytes_are_digits width bytes (eqb-true (length bytes) width parts.0) parts.1 d))
    (λ e. tt))
