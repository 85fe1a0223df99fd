-- Tokens of which a line is made: words without byte 10. Words with one space between are the tokens of their line.
use Rattle.std.proofs.Common.{◌≡◌, ℕ, zero, suc, ◌+◌, ◌*◌, ◌/◌, ◌%◌, ◌^◌, ◌<◌, ◌≤◌, Bool, true, false, not, ◌&&◌, ◌||◌, nat_eq, nat_le, nat_lt, List, [], ◌∷◌, ◌++◌, length, length-append, ℤ, pos, negsuc, refl, ap, ap₂, ◌∙◌, append-nil, inl, inr, arith}
use Rattle.std.specs.List.{AllByRecursion, list_all, list_any}
use Rattle.std.specs.Char.{is_digit, digit_char}
use Rattle.std.specs.Str.Parse.{digits_value}
use Rattle.std.proofs.Math.Nat.{mod-lt, div-add-mod, div-lt_iff_lt-mul, mul_comm, pow-zero, pow-succ'}
use Rattle.std.proofs.lemmas.Bool.{and_parts, and_from, or_parts, or_from, le-leb, leb-true, lt-ltb, ltb-true, ne_eqb, not-true, not_from_false, false_from_ne_true, cases_lt}
use Rattle.std.proofs.lemmas.Str.{digit_value-digit_char}
use Rattle.std.proofs.lemmas.Int.Digits.{digits_value_push}
use Rattle.std.proofs.lemmas.List.Folds.{list_all-append}
use Rattle.base.specs.Decimals.{are_digits}
use Rattle.base.specs.Decimals.{is_digit as is_ten_digit}
use Rattle.base.specs.Lines.{IsLine}
use Rattle.btor2text.specs.Tokens.{is_blank, tokens, begins_token}
use Rattle.btor2text.specs.Digits.{are_digits_of, IsNumber, last_digits}
use Rattle.btor2text.specs.Reading.{Tokens}
use Rattle.btor2text.specs.Writing.{behind_spaces}
use Rattle.btor2text.proofs.TokenLemmas.{tokens-word, tokens-word_blank}
use Rattle.fulltext.specs.Writing.{long_decimal, signed_long}
use Rattle.fulltext.proofs.LongLemmas.{long_digits}
use Rattle.fulltext.proofs.TokenLemmas.{IsWord, begins_on, tokens_all, tokens_are_words}

pub record IsPart (token : List ℕ) : Type 0 where
  pub word : IsWord token
  pub whole : IsLine token

-- ---- a line of words

pub tokens_behind : (word : List ℕ) (words : Tokens) → IsPart word → AllByRecursion IsPart words → tokens (word ++ behind_spaces words) ≡ word ∷ words
tokens_behind word [] h each = rw (append-nil word) (tokens-word word h.word.blanks h.word.begins)
tokens_behind word (next ∷ words) h each =
    tokens-word_blank word 32 (next ++ behind_spaces words) h.word.blanks refl (begins_on word (32 ∷ next ++ behind_spaces words) h.word.begins)
    ∙ ap (λ (t : Tokens). word ∷ t) (tokens_behind next words each.0 each.1)

line_append : (xs ys : List ℕ) → IsLine xs → IsLine ys → IsLine (xs ++ ys)
line_append [] ys h k = k
line_append (b ∷ bs) ys h k = let parts = or_parts (nat_eq b 10) _ h in or_from (nat_eq b 10) _ parts.0 (line_append bs ys parts.1 k)

words_line : (words : Tokens) → AllByRecursion IsPart words → IsLine (behind_spaces words)
words_line [] each = refl
words_line (word ∷ words) each = line_append (32 ∷ word) (behind_spaces words) each.0.whole (words_line words each.1)

pub line_behind : (word : List ℕ) (words : Tokens) → IsPart word → AllByRecursion IsPart words → IsLine (word ++ behind_spaces words)
line_behind word words h each = line_append word (behind_spaces words) h.whole (words_line words each)

-- ---- the tokens of a line without byte 10 are such

no_end_all : (line : List ℕ) → IsLine line → list_all (λ b. is_blank b || not (nat_eq b 10)) line ≡ true
no_end_all [] h = refl
no_end_all (b ∷ bs) h =
    let parts = or_parts (nat_eq b 10) _ h in
    and_from (is_blank b || not (nat_eq b 10)) _ (by (is_blank b) (nat_eq b 10) parts.0) (no_end_all bs parts.1)
  where
    by : (c d : Bool) → d ≡ false → (c || not d) ≡ true
    by true d e = refl
    by false d e = ap not e

line_from : (token : List ℕ) → list_all (λ b. not (nat_eq b 10)) token ≡ true → IsLine token
line_from [] h = refl
line_from (b ∷ bs) h = let parts = and_parts (not (nat_eq b 10)) _ h in or_from (nat_eq b 10) _ (not-true (nat_eq b 10) parts.0) (line_from bs parts.1)

both : (ts : Tokens) → AllByRecursion IsWord ts → AllByRecursion (λ t. list_all (λ b. not (nat_eq b 10)) t ≡ true) ts → AllByRecursion IsPart ts
both [] h k = tt
both (t ∷ ts) h k = (record { word = h.0; whole = line_from t k.0 }, both ts h.1 k.1)

pub tokens_are_parts : (line : List ℕ) → IsLine line → AllByRecursion IsPart (tokens line)
tokens_are_parts line h = both (tokens line) (tokens_are_words line) (tokens_all (λ b. not (nat_eq b 10)) line (no_end_all line h))

-- ---- bytes from `-` to `z`, but `;`

abbrev is_plain : ℕ → Bool
is_plain b = nat_le 45 b && (nat_le b 122 && not (nat_eq b 59))

plain_from : (b : ℕ) → 45 ≤ b → b ≤ 122 → (b ≡ 59 → ⊥) → is_plain b ≡ true
plain_from b least most other = and_from (nat_le 45 b) _ (le-leb 45 b least) (and_from (nat_le b 122) _ (le-leb b 122 most) (ap not (ne_eqb b 59 other)))

plain_no : (b c : ℕ) → is_plain b ≡ true → c < 45 → nat_eq b c ≡ false
plain_no b c h less = let least = leb-true 45 b (and_parts (nat_le 45 b) _ h).0 in ne_eqb b c (λ e. omega (arith, e, least, less))

plain_blanks : (token : List ℕ) → list_all is_plain token ≡ true → list_any is_blank token ≡ false
plain_blanks [] h = refl
plain_blanks (b ∷ bs) h =
    let parts = and_parts (is_plain b) _ h in
    or_from (is_blank b) _ (or_from (nat_eq b 32) _ (plain_no b 32 parts.0 (omega arith)) (plain_no b 9 parts.0 (omega arith))) (plain_blanks bs parts.1)

plain_line : (token : List ℕ) → list_all is_plain token ≡ true → IsLine token
plain_line [] h = refl
plain_line (b ∷ bs) h = let parts = and_parts (is_plain b) _ h in or_from (nat_eq b 10) _ (plain_no b 10 parts.0 (omega arith)) (plain_line bs parts.1)

plain_begins : (token : List ℕ) → list_all is_plain token ≡ true → 1 ≤ length token → begins_token token ≡ true
plain_begins [] h some = absurd (omega (arith, some))
plain_begins (b ∷ bs) h some =
    let own = (and_parts (is_plain b) _ h).0 in
    let other : nat_eq b 59 ≡ false = not-true (nat_eq b 59) (and_parts (nat_le b 122) _ (and_parts (nat_le 45 b) _ own).1).1 in
    not_from_false (is_blank b || nat_eq b 59) (or_from (is_blank b) (nat_eq b 59) (or_from (nat_eq b 32) _ (plain_no b 32 own (omega arith)) (plain_no b 9 own (omega arith))) other)

plain_part : (token : List ℕ) → list_all is_plain token ≡ true → 1 ≤ length token → IsPart token
plain_part token h some = record { word = record { blanks = plain_blanks token h; begins = plain_begins token h some }; whole = plain_line token h }

-- ---- decimals

ten_plain : (ds : List ℕ) → are_digits ds ≡ true → list_all is_plain ds ≡ true
ten_plain [] h = refl
ten_plain (b ∷ bs) h =
    let parts = and_parts (is_ten_digit b) _ h in
    let range = and_parts (nat_le 48 b) (nat_le b 57) parts.0 in
    let least = leb-true 48 b range.0 in
    let most = leb-true b 57 range.1 in
    and_from (is_plain b) _ (plain_from b (omega (arith, least)) (omega (arith, most)) (λ e. omega (arith, e, most))) (ten_plain bs parts.1)

pub signed_part : (v : ℤ) → IsPart (signed_long v)
signed_part (pos n) = let d = long_digits n in plain_part (long_decimal n) (ten_plain (long_decimal n) d.0) d.1
signed_part (negsuc n) = let d = long_digits (suc n) in plain_part (45 ∷ long_decimal (suc n)) (ten_plain (long_decimal (suc n)) d.0) (omega arith)

-- ---- the last digits of a number

digit_range : (d : ℕ) → d < 16 → (48 ≤ digit_char d) × (digit_char d ≤ 102) × (digit_char d ≡ 59 → ⊥)
digit_range d lt =
    elim (cases_lt d 10) [
      | inl low ↦ rw (lt-ltb d 10 low) (omega arith, omega (arith, low), λ e. omega (arith, e, low))
      | inr high ↦
          let letter : nat_lt d 10 ≡ false = false_from_ne_true _ (λ e. omega (arith, ltb-true d 10 e, high)) in
          rw letter (omega arith, omega (arith, lt), λ e. omega (arith, e, high))
    ]

module _ (radix : ℕ) (least : 1 ≤ radix) (most : radix ≤ 16) where
  last_plain : (count value : ℕ) → list_all is_plain (last_digits radix count value) ≡ true
  last_plain zero value = refl
  last_plain (suc count) value =
      let digit : value % radix < radix = mod-lt value least in
      let range = digit_range (value % radix) (omega (arith, digit, most)) in
      list_all-append is_plain (last_digits radix count (value / radix)) (digit_char (value % radix) ∷ [])
      ∙ and_from _ _ (last_plain count (value / radix)) (and_from _ _ (plain_from (digit_char (value % radix)) (omega (arith, range.0)) (omega (arith, range.1)) range.2) refl)

  last_each : (count value : ℕ) → are_digits_of radix (last_digits radix count value) ≡ true
  last_each zero value = refl
  last_each (suc count) value =
      let digit : value % radix < radix = mod-lt value least in
      let own : is_digit (digit_char (value % radix)) radix ≡ true = lt-ltb _ radix (omega (arith, digit_value-digit_char (value % radix) (omega (arith, digit, most)), digit)) in
      list_all-append (λ b. is_digit b radix) (last_digits radix count (value / radix)) (digit_char (value % radix) ∷ []) ∙ and_from _ _ (last_each count (value / radix)) (and_from _ _ own refl)

  last_length : (count value : ℕ) → length (last_digits radix count value) ≡ count
  last_length zero value = refl
  last_length (suc count) value = length-append (last_digits radix count (value / radix)) (digit_char (value % radix) ∷ []) ∙ omega (arith, last_length count (value / radix))

  last_value : (count value : ℕ) → value < radix ^ count → digits_value radix (last_digits radix count value) ≡ value
  last_value zero value lt = omega (arith, lt, pow-zero radix)
  last_value (suc count) value lt =
      let digit : value % radix < radix = mod-lt value least in
      let less : value / radix < radix ^ count = (div-lt_iff_lt-mul {k = radix} {x = value} {y = radix ^ count} least).1 (omega (arith, lt, pow-succ' radix count ∙ mul_comm radix (radix ^ count))) in
      let whole : value / radix * radix + value % radix ≡ value = ap (λ (n : ℕ). n + value % radix) (mul_comm (value / radix) radix) ∙ div-add-mod value radix in
      digits_value_push radix (last_digits radix count (value / radix)) (digit_char (value % radix))
      ∙ (ap₂ (λ (a b : ℕ). a * radix + b) (last_value count (value / radix) less) (digit_value-digit_char (value % radix) (omega (arith, digit, most))) ∙ whole)

  pub last_number : (count value : ℕ) → value < radix ^ count → IsNumber radix count value (last_digits radix count value)
  last_number count value lt = record { each = last_each count value; many = last_length count value; says = last_value count value lt }

  pub last_part : (count value : ℕ) → 1 ≤ count → IsPart (last_digits radix count value)
  last_part count value some = plain_part (last_digits radix count value) (last_plain count value) (omega (arith, some, last_length count value))
