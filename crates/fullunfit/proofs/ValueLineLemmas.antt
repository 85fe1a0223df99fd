-- The line of a word that tells its value, as the line of the word.
use Rattle.std.proofs.Common.{◌≡◌, ℕ, ◌+◌, ◌-◌, ◌<◌, ◌≤◌, ◌^◌, ◌==◌, ◌&&◌, Bool, true, false, cond, List, [], ◌∷◌, ◌++◌, Option, Some, None, decimal, length, map, reverse, slice_get, slice_index, option_and_then, refl, sym, ap, ap₂, subst, ◌∙◌, append_assoc, arith}
use Rattle.std.specs.List.{list_any, list_all}
use Rattle.std.proofs.lemmas.Bool.{or_from, or_parts, eq-eqb, ne_eqb}
use Rattle.std.proofs.lemmas.Option.{slice_get_within}
use Rattle.std.proofs.lemmas.Fmt.{decimal_nonempty}
use Rattle.std.proofs.lemmas.List.{length-map, length-reverse}
use Rattle.std.proofs.lemmas.List.Folds.{list_any-append}
use Rattle.base.specs.Decimals.{number_of}
use Rattle.base.specs.Lines.{IsLine}
use Rattle.base.specs.Word.{bits, word}
use Rattle.base.proofs.BitLemmas.{length-bits}
use Rattle.base.proofs.DecimalLemmas.{number_of-decimal, decimal_digits, decimal_without, digits_without}
use Rattle.full.specs.Lines.{Sort, words, arrays}
use Rattle.witness.specs.Texts.{Assignment, IsAssignment, assignment_line, binary, digit, symbol_part}
use Rattle.witness.specs.Admits.{begins_part, cut_at_space, is_bit}
use Rattle.witness.proofs.AssignmentLemmas.{assignment_line_is_line}
use Rattle.witness.proofs.PieceLemmas.{cut_at_space-parts, binary_digits}
use Rattle.spread.proofs.AssignedLemmas.{digits_begin_none}
use Rattle.unfit.proofs.LineLemmas.{word_of_binary}
use Rattle.fulljudge.specs.Shapes.{word_count, first_index}
use Rattle.fulljudge.specs.Kept.{words_in}
use Rattle.fulljudge.specs.Lines.{digits_number, address_of, indexed, value_line, word_line}
use Rattle.fulljudge.proofs.AddressLemmas.{last_of}
use Rattle.fulljudge.proofs.WordLineLemmas.{by_number}
use Rattle.fullunfit.specs.Titles.{value_front, word_front}
use Rattle.fulljudge.proofs.OwnerLemmas.{Stands, stands, some_words}
use Rattle.fullunfit.proofs.TitleLemmas.{front_stands}

-- ---- an address

-- a cell's address between its brackets
abbrev token : ℕ → ℕ → List ℕ
token b c = 91 ∷ (binary b c ++ 93 ∷ [])

all_bits : (bs : List Bool) → list_all is_bit (map digit bs) ≡ true
all_bits [] = refl
all_bits (true ∷ bs) = all_bits bs
all_bits (false ∷ bs) = all_bits bs

length-binary : (b c : ℕ) → length (binary b c) ≡ b
length-binary b c = length-map (reverse (bits b c)) digit ∙ length-reverse (bits b c) ∙ length-bits b c

address_is : (b c : ℕ) → c < 2 ^ b → address_of b (token b c) ≡ Some c
address_is b c fits =
    ap (option_and_then (digits_number b)) (last_of (binary b c ++ 93 ∷ []) (binary b c) 93 refl)
    ∙ ap₂ (λ (p q : Bool). cond (p && q) (Some (word (reverse (map (λ d. d == 49) (binary b c))))) None) (eq-eqb (length (binary b c)) b (length-binary b c)) (all_bits (reverse (bits b c)))
    ∙ ap Some (word_of_binary b c fits)

-- it has no such byte
token_without : (x b c : ℕ) → x < 48 → list_any (λ d. d == x) (token b c) ≡ false
token_without x b c h =
    or_from (91 == x) _ (ne_eqb 91 x (λ e. omega (arith, e, h)))
    (list_any-append (λ d. d == x) (binary b c) (93 ∷ []) ∙ or_from _ _ (digits_without x (binary b c) h (binary_digits b c)) (or_from (93 == x) false (ne_eqb 93 x (λ e. omega (arith, e, h))) refl))

-- ---- the line of a value

-- its index behind a front stands first
abbrev behind_index : Sort → ℕ → List ℕ → List ℕ
behind_index (words n) c rest = rest
behind_index (arrays b n) c rest = token b c ++ 32 ∷ rest

front_first : (s : Sort) (i c : ℕ) (rest : List ℕ) → value_front s i c ++ 32 ∷ rest ≡ decimal i ++ 32 ∷ behind_index s c rest
front_first (words n) i c rest = refl
front_first (arrays b n) i c rest = append_assoc (decimal i) (32 ∷ token b c) (32 ∷ rest)

module _ (sorts : List Sort) (i k first : ℕ) (rest : List ℕ) (small : i < 2 ^ 64) (is : first ≡ first_index sorts i) (from : first ≤ k) where
  value_is : (s : Sort) → slice_get sorts i ≡ Some s → k < first + word_count s → value_line first (Some s) (Some (behind_index s (k - first) rest)) ≡ decimal k ++ 32 ∷ rest
  value_is (words n) there below = let same : first ≡ k = omega (arith, from, below) in ap (λ (m : ℕ). decimal m ++ 32 ∷ rest) same
  value_is (arrays b n) there below =
      let cell : k - first < 2 ^ b = omega (arith, from, below) in
      let same : first + (k - first) ≡ k = omega (arith, from) in
      ap (λ (c : List ℕ × Option (List ℕ)). indexed (option_and_then (λ a. Some (first + a)) (address_of b c.0)) c.1) (cut_at_space-parts (token b (k - first)) (Some rest) (token_without 32 b (k - first) (omega arith)))
      ∙ ap (λ (o : Option ℕ). indexed (option_and_then (λ a. Some (first + a)) o) (Some rest)) (address_is b (k - first) cell)
      ∙ ap (λ (m : ℕ). decimal m ++ 32 ∷ rest) same

  cut_is : (s : Sort) → cut_at_space (value_front s i (k - first) ++ 32 ∷ rest) ≡ (decimal i, Some (behind_index s (k - first) rest))
  cut_is s = ap cut_at_space (front_first s i (k - first) rest) ∙ cut_at_space-parts (decimal i) (Some (behind_index s (k - first) rest)) (decimal_without 32 i (omega arith) small)

  value_line_is : (s : Sort) → slice_get sorts i ≡ Some s → k < first + word_count s → word_line sorts (value_front s i (k - first) ++ 32 ∷ rest) ≡ decimal k ++ 32 ∷ rest
  value_line_is s there below =
      let line : List ℕ = value_front s i (k - first) ++ 32 ∷ rest in
      by_number sorts line i (Some s) (ap (λ (c : List ℕ × Option (List ℕ)). number_of c.0) (cut_is s) ∙ number_of-decimal i small) there
      ∙ ap (λ (c : List ℕ × Option (List ℕ)). value_line (first_index sorts i) (Some s) c.1) (cut_is s)
      ∙ ap (λ (m : ℕ). value_line m (Some s) (Some (behind_index s (k - first) rest))) (sym is)
      ∙ value_is s there below

-- ---- the line of a word of a part

-- with the front of the word
abbrev pub told_line : List Sort → List ℕ → Assignment → List ℕ
told_line sorts widths a = word_front sorts a.index ++ 32 ∷ binary (slice_index widths a.index) a.word ++ symbol_part a.symbol

module _ (sorts : List Sort) (widths : List ℕ) (many : length widths < 2 ^ 64) (few : words_in sorts < 2 ^ 64) (a : Assignment) (is : IsAssignment widths a) (within : a.index < words_in sorts) where
  at : Stands sorts a.index
  at = stands sorts a.index within

  abbrev rest : List ℕ
  rest = binary (slice_index widths a.index) a.word ++ symbol_part a.symbol

  -- its bytes
  spelled : told_line sorts widths a ≡ value_front at.sort at.place (a.index - first_index sorts at.place) ++ 32 ∷ rest
  spelled =
      append_assoc (word_front sorts a.index) (32 ∷ binary (slice_index widths a.index) a.word) (symbol_part a.symbol) ∙ ap (λ (front : List ℕ). front ++ 32 ∷ rest) (front_stands sorts a.index at)

  assigned : assignment_line widths a ≡ decimal a.index ++ 32 ∷ rest
  assigned = append_assoc (decimal a.index) (32 ∷ binary (slice_index widths a.index) a.word) (symbol_part a.symbol)

  place_small : at.place < 2 ^ 64
  place_small = let there = at.there in omega (arith, slice_get_within sorts at.place at.sort there, some_words sorts, few)

  pub line_is_of_word : word_line sorts (told_line sorts widths a) ≡ assignment_line widths a
  line_is_of_word = ap (word_line sorts) spelled ∙ value_line_is sorts at.place a.index (first_index sorts at.place) rest place_small refl at.from at.sort at.there at.below ∙ sym assigned

  pub line_begins_none : begins_part (told_line sorts widths a) ≡ false
  line_begins_none =
      ap begins_part (spelled ∙ front_first at.sort at.place (a.index - first_index sorts at.place) rest)
      ∙ digits_begin_none (decimal at.place) (32 ∷ behind_index at.sort (a.index - first_index sorts at.place) rest) (decimal_digits at.place place_small) (decimal_nonempty at.place place_small)

  rest_is_line : IsLine rest
  rest_is_line =
      let whole : IsLine (decimal a.index ++ 32 ∷ rest) = subst IsLine assigned (assignment_line_is_line widths a many is) in
      let parts = or_parts (list_any (λ b. b == 10) (decimal a.index)) (list_any (λ b. b == 10) (32 ∷ rest)) (sym (list_any-append (λ b. b == 10) (decimal a.index) (32 ∷ rest)) ∙ whole) in
      (or_parts false (list_any (λ b. b == 10) rest) parts.1).1

  behind_is_line : (s : Sort) (c : ℕ) → IsLine (behind_index s c rest)
  behind_is_line (words n) c = rest_is_line
  behind_is_line (arrays b n) c = list_any-append (λ d. d == 10) (token b c) (32 ∷ rest) ∙ or_from _ _ (token_without 10 b c (omega arith)) rest_is_line

  pub told_line_is_line : IsLine (told_line sorts widths a)
  told_line_is_line =
      subst IsLine (sym (spelled ∙ front_first at.sort at.place (a.index - first_index sorts at.place) rest))
      (list_any-append (λ b. b == 10) (decimal at.place) (32 ∷ behind_index at.sort (a.index - first_index sorts at.place) rest) ∙ or_from _ _ (decimal_without 10 at.place (omega arith) place_small) (behind_is_line at.sort (a.index - first_index sorts at.place)))
