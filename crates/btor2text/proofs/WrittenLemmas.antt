-- What is written stands for the items that are written.
use Rattle.std.proofs.Common.{◌≡◌, ℕ, zero, suc, ◌+◌, ◌*◌, ◌/◌, ◌%◌, ◌^◌, ◌<◌, ◌≤◌, Bool, true, false, not, ◌&&◌, ◌==◌, nat_le, nat_lt, ap₂, List, [], ◌∷◌, ◌++◌, length, length-append, map, codes, decimal, ℤ, pos, negsuc, Option, Some, None, refl, sym, ap, subst, ◌∙◌, append_assoc, append-nil, inl, inr, arith}
use Rattle.std.specs.Prelude.{IfSome}
use Rattle.std.specs.List.{list_any, list_all}
use Rattle.std.specs.Fmt.{signed_decimal}
use Rattle.std.specs.Char.{is_digit, digit_char}
use Rattle.std.specs.Str.Parse.{AllDigits, digits_value}
use Rattle.std.proofs.Math.Nat.{mod-lt, div-add-mod, div-lt_iff_lt-mul, mul_comm, pow-zero, pow-succ'}
use Rattle.std.proofs.lemmas.Bool.{and_parts, and_from, le-leb, leb-true, lt-ltb, ltb-true, ne_eqb, not-true, or_parts, or_from, false_from_ne_true, cases_lt}
use Rattle.std.proofs.lemmas.Fmt.{decimal_is_IsNumeral, decimal_nonempty}
use Rattle.std.proofs.lemmas.Str.{digit_value-digit_char}
use Rattle.std.proofs.lemmas.Str.Parse.{digit_from_value}
use Rattle.std.proofs.lemmas.Int.Digits.{digits_value_push}
use Rattle.std.proofs.lemmas.List.Folds.{list_all-append}
use Rattle.std.proofs.lemmas.List.Elements.{All-from_recursion}
use Rattle.std.specs.Option.{option_to_list}
use Rattle.base.specs.Lines.{IsLine, text_of_lines}
use Rattle.base.proofs.LineLemmas.{EachLine}
use Rattle.base.specs.declared.operators.Unary.{Unary}
use Rattle.base.specs.declared.operators.Unary.TheVariants as unary
use Rattle.base.specs.declared.operators.Binary.{Binary}
use Rattle.base.specs.declared.operators.Binary.TheVariants as binary
use Rattle.btor2.specs.declared.item.Item.{Item}
use Rattle.btor2.specs.declared.item.Body.{Body}
use Rattle.btor2.specs.declared.item.Body.TheVariants as body
use Rattle.btor2.specs.Symbols.{is_printed, is_symbol}
use Rattle.btor2.specs.Check.{IsWellFormed, IsWellFormedAfter}
use Rattle.btor2.specs.Parts.{HasFewOperands, HasSoundParts, HaveSoundParts}
use Rattle.btor2.proofs.AcceptedLemmas.{Each}
use Rattle.btor2.proofs.ModelLemmas.{IsWellFormed-push}
use Rattle.btor2text.specs.Tokens.{is_blank, tokens, begins_token}
use Rattle.btor2text.specs.Words.{unary_name, binary_name}
use Rattle.btor2text.specs.Digits.{are_digits_of, IsNumber, last_digits}
use Rattle.btor2text.specs.Spelling.{form_tokens, SaysBody, SpellsItem, SpellsAll, StandsFor}
use Rattle.btor2text.specs.Writing.{behind_spaces, written}
use Rattle.btor2text.proofs.BoundLemmas.{IsId, SignedFits, BodyFits, Fits, accepted_fits}
use Rattle.btor2text.proofs.StandsLemmas.{spells_line}
use Rattle.btor2text.proofs.TokenLemmas.{tokens-word, tokens-word_blank}

-- ---- words: printed bytes, at least one, of which the first opens no comment

abbrev is_first : List ℕ → Bool
is_first [] = false
is_first (b ∷ bs) = not (b == 59)

record IsWord (word : List ℕ) : Type 0 where
  printed : list_all is_printed word ≡ true
  first : is_first word ≡ true

abbrev AreWords : List (List ℕ) → Type 0
AreWords [] = Unit {0}
AreWords (word ∷ words) = IsWord word × AreWords words

are_words-append : (xs ys : List (List ℕ)) → AreWords xs → AreWords ys → AreWords (xs ++ ys)
are_words-append [] ys h k = k
are_words-append (x ∷ xs) ys h k = (h.0, are_words-append xs ys h.1 k)

not_blank : (b : ℕ) → is_printed b ≡ true → is_blank b ≡ false
not_blank b h =
    let parts = and_parts (nat_le 33 b) (nat_le b 126) h in
    let least = leb-true 33 b parts.0 in
    or_from _ _ (ne_eqb b 32 (λ e. omega (arith, e, least))) (ne_eqb b 9 (λ e. omega (arith, e, least)))

no_end : (b : ℕ) → is_printed b ≡ true → (b == 10) ≡ false
no_end b h =
    let parts = and_parts (nat_le 33 b) (nat_le b 126) h in
    let least = leb-true 33 b parts.0 in
    ne_eqb b 10 (λ e. omega (arith, e, least))

no_blanks : (word : List ℕ) → list_all is_printed word ≡ true → list_any is_blank word ≡ false
no_blanks [] h = refl
no_blanks (b ∷ bs) h = let parts = and_parts (is_printed b) (list_all is_printed bs) h in or_from _ _ (not_blank b parts.0) (no_blanks bs parts.1)

no_ends : (word : List ℕ) → list_all is_printed word ≡ true → IsLine word
no_ends [] h = refl
no_ends (b ∷ bs) h = let parts = and_parts (is_printed b) (list_all is_printed bs) h in or_from _ _ (no_end b parts.0) (no_ends bs parts.1)

begins : (word rest : List ℕ) → IsWord word → begins_token (word ++ rest) ≡ true
begins [] rest h = absurd cc
begins (b ∷ bs) rest h =
    let blank = not_blank b (and_parts (is_printed b) (list_all is_printed bs) h.printed).0 in
    let other : (b == 59) ≡ false = not-true (b == 59) h.first in
    rw (blank, other) refl

-- the tokens of words with one space between are the words
tokens_behind : (word : List ℕ) (words : List (List ℕ)) → IsWord word → AreWords words → tokens (word ++ behind_spaces words) ≡ word ∷ words
tokens_behind word [] h each = rw (append-nil word) (tokens-word word (no_blanks word h.printed) (subst (λ (l : List ℕ). begins_token l ≡ true) (append-nil word) (begins word [] h)))
tokens_behind word (next ∷ words) h each =
    tokens-word_blank word 32 (next ++ behind_spaces words) (no_blanks word h.printed) refl (begins word (32 ∷ next ++ behind_spaces words) h)
    ∙ ap (λ (t : List (List ℕ)). word ∷ t) (tokens_behind next words each.0 each.1)

line_append : (xs ys : List ℕ) → IsLine xs → IsLine ys → IsLine (xs ++ ys)
line_append [] ys h k = k
line_append (b ∷ bs) ys h k = let parts = or_parts (b == 10) (list_any (λ c. c == 10) bs) h in or_from _ _ parts.0 (line_append bs ys parts.1 k)

words_line : (words : List (List ℕ)) → AreWords words → IsLine (behind_spaces words)
words_line [] each = refl
words_line (word ∷ words) each = line_append (32 ∷ word) (behind_spaces words) (no_ends word each.0.printed) (words_line words each.1)

-- ---- numbers are words

digits_are_printed : (bytes : List ℕ) → AllDigits 10 bytes → list_all is_printed bytes ≡ true
digits_are_printed [] h = refl
digits_are_printed (b ∷ bs) h =
    let range = digit_from_value b h.0 in
    and_from _ _ (and_from _ _ (le-leb 33 b (omega (arith, range.0))) (le-leb b 126 (omega (arith, range.1)))) (digits_are_printed bs h.1)

digits_word : (bytes : List ℕ) → AllDigits 10 bytes → 0 < length bytes → IsWord bytes
digits_word [] h some = absurd (omega (arith, some))
digits_word (b ∷ bs) h some =
    let range = digit_from_value b h.0 in
    let other : (b == 59) ≡ false = ne_eqb b 59 (λ e. omega (arith, e, range.1)) in
    record { printed = digits_are_printed (b ∷ bs) h; first = rw other refl }

decimal_word : (n : ℕ) → n < 2 ^ 64 → IsWord (decimal n)
decimal_word n lt = digits_word (decimal n) (decimal_is_IsNumeral n lt).0.1 (decimal_nonempty n lt)

signed_word : (v : ℤ) → SignedFits v → IsWord (signed_decimal v)
signed_word (pos n) lt = decimal_word n lt
signed_word (negsuc n) lt = record { printed = (decimal_word (suc n) lt).printed; first = refl }

id_word : (n : ℕ) → IsId n → IsWord (decimal n)
id_word n h = decimal_word n (omega (arith, h.1))

small_word : (n : ℕ) → n ≤ 64 → IsWord (decimal n)
small_word n le = decimal_word n (omega (arith, le))

id_words : (nodes : List ℕ) → Each IsId nodes → AreWords (map decimal nodes)
id_words [] each = tt
id_words (a ∷ nodes) each = (id_word a each.0, id_words nodes each.1)

-- ---- the last digits of a number are words, and write it

digit_range : (d : ℕ) → d < 16 → (48 ≤ digit_char d) × (digit_char d ≤ 102) × (digit_char d ≡ 59 → ⊥)
digit_range d lt =
    elim (cases_lt d 10) [
      | inl low ↦ rw (lt-ltb d 10 low) (omega arith, omega (arith, low), λ e. omega (arith, e, low))
      | inr high ↦
          let letter : (nat_lt d 10) ≡ false = false_from_ne_true _ (λ e. omega (arith, ltb-true d 10 e, high)) in
          rw letter (omega arith, omega (arith, lt), λ e. omega (arith, e, high))
    ]

last_printed : (radix count value : ℕ) → 1 ≤ radix → radix ≤ 16 → list_all is_printed (last_digits radix count value) ≡ true
last_printed radix zero value least most = refl
last_printed radix (suc count) value least most =
    let digit : value % radix < radix = mod-lt value least in
    let range = digit_range (value % radix) (omega (arith, digit, most)) in
    let own : is_printed (digit_char (value % radix)) ≡ true = and_from _ _ (le-leb 33 (digit_char (value % radix)) (omega (arith, range.0))) (le-leb (digit_char (value % radix)) 126 (omega (arith, range.1))) in
    list_all-append is_printed (last_digits radix count (value / radix)) (digit_char (value % radix) ∷ []) ∙ and_from _ _ (last_printed radix count (value / radix) least most) (and_from _ _ own refl)

first_of : (xs ys : List ℕ) → is_first xs ≡ true → is_first (xs ++ ys) ≡ true
first_of [] ys h = absurd cc
first_of (x ∷ xs) ys h = h

last_first : (radix count value : ℕ) → 1 ≤ radix → radix ≤ 16 → 1 ≤ count → is_first (last_digits radix count value) ≡ true
last_first radix zero value least most some = absurd (omega (arith, some))
last_first radix (suc zero) value least most some =
    let digit : value % radix < radix = mod-lt value least in
    let range = digit_range (value % radix) (omega (arith, digit, most)) in
    rw (ne_eqb (digit_char (value % radix)) 59 range.2) refl
last_first radix (suc (suc count)) value least most some =
    first_of (last_digits radix (suc count) (value / radix)) (digit_char (value % radix) ∷ []) (last_first radix (suc count) (value / radix) least most (omega arith))

last_word : (radix count value : ℕ) → 1 ≤ radix → radix ≤ 16 → 1 ≤ count → IsWord (last_digits radix count value)
last_word radix count value least most some = record { printed = last_printed radix count value least most; first = last_first radix count value least most some }

last_length : (radix count value : ℕ) → length (last_digits radix count value) ≡ count
last_length radix zero value = refl
last_length radix (suc count) value = length-append (last_digits radix count (value / radix)) (digit_char (value % radix) ∷ []) ∙ omega (arith, last_length radix count (value / radix))

last_each : (radix count value : ℕ) → 1 ≤ radix → radix ≤ 16 → are_digits_of radix (last_digits radix count value) ≡ true
last_each radix zero value least most = refl
last_each radix (suc count) value least most =
    let digit : value % radix < radix = mod-lt value least in
    let own : is_digit (digit_char (value % radix)) radix ≡ true = lt-ltb _ radix (omega (arith, digit_value-digit_char (value % radix) (omega (arith, digit, most)), digit)) in
    list_all-append (λ b. is_digit b radix) (last_digits radix count (value / radix)) (digit_char (value % radix) ∷ []) ∙ and_from _ _ (last_each radix count (value / radix) least most) (and_from _ _ own refl)

divided : (radix count value : ℕ) → 1 ≤ radix → value < radix ^ suc count → value / radix < radix ^ count
divided radix count value least lt = (div-lt_iff_lt-mul {k = radix} {x = value} {y = radix ^ count} least).1 (omega (arith, lt, pow-succ' radix count ∙ mul_comm radix (radix ^ count)))

whole_again : (value radix : ℕ) → value / radix * radix + value % radix ≡ value
whole_again value radix = ap (λ (n : ℕ). n + value % radix) (mul_comm (value / radix) radix) ∙ div-add-mod value radix

last_value : (radix count value : ℕ) → 1 ≤ radix → radix ≤ 16 → value < radix ^ count → digits_value radix (last_digits radix count value) ≡ value
last_value radix zero value least most lt = omega (arith, lt, pow-zero radix)
last_value radix (suc count) value least most lt =
    let digit : value % radix < radix = mod-lt value least in
    let front = last_value radix count (value / radix) least most (divided radix count value least lt) in
    digits_value_push radix (last_digits radix count (value / radix)) (digit_char (value % radix))
    ∙ (ap₂ (λ (a b : ℕ). a * radix + b) front (digit_value-digit_char (value % radix) (omega (arith, digit, most))) ∙ whole_again value radix)

last_number : (radix count value : ℕ) → 1 ≤ radix → radix ≤ 16 → value < radix ^ count → IsNumber radix count value (last_digits radix count value)
last_number radix count value least most lt = record { each = last_each radix count value least most; many = last_length radix count value; says = last_value radix count value least most lt }

-- ---- forms

unary_word : (op : Unary) → IsWord (unary_name op)
unary_word unary.Not = record { printed = refl; first = refl }
unary_word _ = record { printed = refl; first = refl }

binary_word : (op : Binary) → IsWord (binary_name op)
binary_word binary.Iff = record { printed = refl; first = refl }
binary_word _ = record { printed = refl; first = refl }

-- a word of the format
abbrev keyword : (word : List ℕ) → list_all is_printed word ≡ true → is_first word ≡ true → IsWord word
keyword word printed first = record { printed = printed; first = first }

form_words : (b : Body) → BodyFits b → HasFewOperands b → AreWords (form_tokens b)
form_words (body.Sort n) fits few = (keyword (codes "sort") refl refl, (keyword (codes "bitvec") refl refl, (small_word n fits, tt)))
form_words (body.Input s) fits few = (keyword (codes "input") refl refl, (id_word s fits, tt))
form_words (body.State s) fits few = (keyword (codes "state") refl refl, (id_word s fits, tt))
form_words (body.Zero s) fits few = (keyword (codes "zero") refl refl, (id_word s fits, tt))
form_words (body.One s) fits few = (keyword (codes "one") refl refl, (id_word s fits, tt))
form_words (body.Ones s) fits few = (keyword (codes "ones") refl refl, (id_word s fits, tt))
form_words (body.Const s d v) fits few = (keyword (codes "const") refl refl, (id_word s fits.0, (last_word 2 d v (omega arith) (omega arith) fits.1, tt)))
form_words (body.Constd s v) fits few = (keyword (codes "constd") refl refl, (id_word s fits.0, (signed_word v fits.1, tt)))
form_words (body.Consth s d v) fits few = (keyword (codes "consth") refl refl, (id_word s fits.0, (last_word 16 d v (omega arith) (omega arith) fits.1, tt)))
form_words (body.Uext s a w) fits few = (keyword (codes "uext") refl refl, (id_word s fits.0, (id_word a fits.1, (small_word w fits.2, tt))))
form_words (body.Sext s a w) fits few = (keyword (codes "sext") refl refl, (id_word s fits.0, (id_word a fits.1, (small_word w fits.2, tt))))
form_words (body.Slice s a u l) fits few = (keyword (codes "slice") refl refl, (id_word s fits.0, (id_word a fits.1, (small_word u fits.2, (small_word l fits.3, tt)))))
form_words (body.Unary op s a) fits few = (unary_word op, (id_word s fits.0, (id_word a fits.1, tt)))
form_words (body.Binary op s a b) fits few = (binary_word op, (id_word s fits.0, (id_word a fits.1, (id_word b fits.2, tt))))
form_words (body.Concat s a b) fits few = (keyword (codes "concat") refl refl, (id_word s fits.0, (id_word a fits.1, (id_word b fits.2, tt))))
form_words (body.Ite s c t e) fits few = (keyword (codes "ite") refl refl, (id_word s fits.0, (id_word c fits.1, (id_word t fits.2, (id_word e fits.3, tt)))))
form_words (body.Init s t v) fits few = (keyword (codes "init") refl refl, (id_word s fits.0, (id_word t fits.1, (id_word v fits.2, tt))))
form_words (body.Next s t v) fits few = (keyword (codes "next") refl refl, (id_word s fits.0, (id_word t fits.1, (id_word v fits.2, tt))))
form_words (body.Bad a) fits few = (keyword (codes "bad") refl refl, (id_word a fits, tt))
form_words (body.Constraint a) fits few = (keyword (codes "constraint") refl refl, (id_word a fits, tt))
form_words (body.Fair a) fits few = (keyword (codes "fair") refl refl, (id_word a fits, tt))
form_words (body.Output a) fits few = (keyword (codes "output") refl refl, (id_word a fits, tt))
form_words (body.Justice nodes) fits few = (keyword (codes "justice") refl refl, (decimal_word (length nodes) (omega (arith, few)), id_words nodes fits))

says_written : (b : Body) → BodyFits b → HasFewOperands b → SaysBody b (form_tokens b)
says_written (body.Const s d v) fits few = (last_digits 2 d v, refl, last_number 2 d v (omega arith) (omega arith) fits.3)
says_written (body.Consth s d v) fits few = (last_digits 16 d v, refl, last_number 16 d v (omega arith) (omega arith) fits.3)
says_written (body.Justice nodes) fits few = (refl, few)
says_written _ fits few = refl

-- ---- lines

symbol_words : (s : Option (List ℕ)) → IfSome s (λ bytes. is_symbol bytes ≡ true) → AreWords (option_to_list s)
symbol_words None h = tt
symbol_words (Some []) h = absurd cc
symbol_words (Some (b ∷ bs)) h =
    let outer = and_parts (not (b == 59)) (nat_le (length (b ∷ bs)) 255 && list_all is_printed (b ∷ bs)) h in
    let inner = and_parts (nat_le (length (b ∷ bs)) 255) (list_all is_printed (b ∷ bs)) outer.1 in
    (record { printed = inner.1; first = outer.0 }, tt)

-- the bytes of an item's line
abbrev line_text : Item → List ℕ
line_text x = decimal x.id ++ behind_spaces (form_tokens x.body ++ option_to_list x.symbol)

line_words : (x : Item) → Fits x → HasSoundParts x → AreWords (form_tokens x.body ++ option_to_list x.symbol)
line_words x fits writable = are_words-append (form_tokens x.body) (option_to_list x.symbol) (form_words x.body fits.body writable.operands) (symbol_words x.symbol writable.symbol)

line_spells : (x : Item) → Fits x → HasSoundParts x → SpellsItem (tokens (line_text x)) x
line_spells x fits writable = record {
  form = form_tokens x.body;
  tokens = tokens_behind (decimal x.id) (form_tokens x.body ++ option_to_list x.symbol) (id_word x.id fits.id) (line_words x fits writable);
  says = says_written x.body fits.body writable.operands;
  symbol = writable.symbol;
}

line_is_line : (x : Item) → Fits x → HasSoundParts x → IsLine (line_text x)
line_is_line x fits writable = line_append (decimal x.id) (behind_spaces (form_tokens x.body ++ option_to_list x.symbol)) (no_ends (decimal x.id) (id_word x.id fits.id).printed) (words_line (form_tokens x.body ++ option_to_list x.symbol) (line_words x fits writable))

written_text : (items : List Item) → written items ≡ text_of_lines (map line_text items)
written_text [] = refl
written_text (x ∷ xs) = ap₂ (λ (a b : List ℕ). a ++ b) (sym (append_assoc (decimal x.id) (behind_spaces (form_tokens x.body ++ option_to_list x.symbol)) (10 ∷ []))) (written_text xs)

lines_spell : (before items : List Item) → IsWellFormed before → IsWellFormedAfter before items → HaveSoundParts items → SpellsAll (map tokens (map line_text items)) items
lines_spell before [] h well writable = tt
lines_spell before (x ∷ xs) h well writable =
    spells_line (tokens (line_text x)) (map tokens (map line_text xs)) x xs (line_spells x (accepted_fits before x h well.0) writable.0)
    (lines_spell (before ++ x ∷ []) xs (IsWellFormed-push before x h well.0) well.1 writable.1)

lines_are_lines : (before items : List Item) → IsWellFormed before → IsWellFormedAfter before items → HaveSoundParts items → EachLine (map line_text items)
lines_are_lines before [] h well writable = tt
lines_are_lines before (x ∷ xs) h well writable = (line_is_line x (accepted_fits before x h well.0) writable.0, lines_are_lines (before ++ x ∷ []) xs (IsWellFormed-push before x h well.0) well.1 writable.1)

-- what is written stands for the items
pub written_stands : (items : List Item) → IsWellFormed items → HaveSoundParts items → StandsFor (written items) items
written_stands items well writable = record {
  lines = map line_text items;
  whole = written_text items;
  each = All-from_recursion IsLine (map line_text items) (lines_are_lines [] items tt well writable);
  spelled = lines_spell [] items tt well writable;
  well_formed = well;
}
