-- What is written of steps is read as them.
use Rattle.std.proofs.Common.{◌≡◌, ℕ, suc, ◌+◌, ◌-◌, ◌*◌, ◌/◌, ◌%◌, ◌^◌, ◌<◌, ◌≤◌, ◌==◌, Bool, true, false, if◌then◌else◌, List, [], ◌∷◌, ◌++◌, map, length, inl, inr, refl, sym, ap, ap₂, ◌∙◌, append_assoc, append-nil, arith}
use Rattle.std.specs.Prelude.{nat_lt, Option, Some, codes, decimal, All}
use Rattle.std.specs.List.{list_any, list_all, AllByRecursion}
use Rattle.std.specs.Str.{bytes_eq}
use Rattle.std.proofs.lemmas.List.Folds.{list_any-append}
use Rattle.std.proofs.lemmas.Slice.Eq.{bytes_eq-Decides}
use Rattle.std.proofs.lemmas.Bool.{cases_Bool, eqb-true, eqb-false, ne_eqb, le-ltb, or_parts, or_from, and_parts}
use Rattle.base.specs.Decimals.{is_nothing, is_digit, are_digits, is_decimal, capped_value, number_of}
use Rattle.base.specs.Lines.{IsLine, text_of_lines, whole_lines, all_lines, line_of}
use Rattle.base.proofs.DecimalLemmas.{digit_range, number_of-decimal, decimal_digits, decimal_without}
use Rattle.base.proofs.LineLemmas.{lines_of_text, unfinished_of_text}
use Rattle.drup.proofs.TextLemmas.{single, word_alone, word_before}
use Rattle.drup.specs.Formula.{IsLiteral}
use Rattle.drup.specs.FormulaTexts.{literal_text}
use Rattle.drup.specs.Proofs.{is_proof_blank, proof_words, is_proof_comment, most_proof_lines}
use Rattle.drup.specs.declared.word.Said.TheVariants as says
use Rattle.drup.specs.Words.{decimal_said, number_word}
use Rattle.drup.specs.Hints.{HintedStep, addition, deletion, ended}
use Rattle.lrat.specs.HintedProofs.{ends, deletes, number, negative, token_by, token_of, Mark, mark, line_marks, lines_marks, between, literals, hints, deletions, goes_on, gives, id_numbered, by_id, taken, with_literal, most_id, by_taken, behind_steps, reading_from, read_text_lrat}
use Rattle.lrat.specs.BinaryHintedProofs.{read_binary_lrat}
use Rattle.lrat.specs.HintedForms.{is_binary_lrat, read_lrat}
use Rattle.lrat.specs.LratTexts.{spaced, step_words, step_line, lrat_text, IsId, IsWritten, on_lines}
use Rattle.lrat.specs.Worked.{reads}
use Rattle.lrat.proofs.TextLemmas.{words_line}

-- ---- words

pub record IsWord (w : List ℕ) : Type 0 where
  pub some : is_nothing w ≡ false
  pub plain : list_any is_proof_blank w ≡ false
  pub line : list_any (λ c. c == 10) w ≡ false

no_blank : (b : ℕ) → 48 ≤ b → is_proof_blank b ≡ false
no_blank b low =
    let a : (b == 32) ≡ false = ne_eqb b 32 (λ e. omega (arith, e, low)) in
    let t : (b == 9) ≡ false = ne_eqb b 9 (λ e. omega (arith, e, low)) in
    let r : (b == 13) ≡ false = ne_eqb b 13 (λ e. omega (arith, e, low)) in
    rw (a, t, r) refl

plain_digits : (bytes : List ℕ) → are_digits bytes ≡ true → list_any is_proof_blank bytes ≡ false
plain_digits [] all = refl
plain_digits (b ∷ bs) all =
    let parts = and_parts (is_digit b) (list_all is_digit bs) all in
    or_from (is_proof_blank b) (list_any is_proof_blank bs) (no_blank b (digit_range b parts.0).0) (plain_digits bs parts.1)

some_bytes : (w : List ℕ) (n : ℕ) → number_of w ≡ Some n → is_nothing w ≡ false
unfolding number_of is_decimal
some_bytes [] n is = absurd (cc (is))
some_bytes (b ∷ bs) n is = refl

pub decimal_word : (n : ℕ) → n < 2 ^ 64 → IsWord (decimal n)
decimal_word n low = record {
  some = some_bytes (decimal n) n (number_of-decimal n low);
  plain = plain_digits (decimal n) (decimal_digits n low);
  line = decimal_without 10 n (omega arith) low;
}

pub minus_word : (w : List ℕ) → IsWord w → IsWord (45 ∷ w)
minus_word w is = record { some = refl; plain = is.plain; line = is.line }

literal_word : (v l : ℕ) → v < 2 ^ 63 → IsLiteral v l → IsWord (literal_text l)
literal_word v l few is = at (l % 2 == 0)
  where
    at : (b : Bool) → IsWord (if b then decimal (l / 2) else 45 ∷ decimal (l / 2))
    at true = decimal_word (l / 2) (omega (arith, few, is.1))
    at false = minus_word (decimal (l / 2)) (decimal_word (l / 2) (omega (arith, few, is.1)))

single_some : (w : List ℕ) → is_nothing w ≡ false → single w ≡ w ∷ []
single_some [] never = absurd (cc)
single_some (b ∷ bs) some = refl

words_spaced : (ws : List (List ℕ)) → AllByRecursion IsWord ws → proof_words (spaced ws) ≡ ws
words_spaced [] all = refl
words_spaced (w ∷ []) all = word_alone w all.0.plain ∙ single_some w all.0.some
words_spaced (w ∷ v ∷ vs) all =
    word_before w (spaced (v ∷ vs)) 32 all.0.plain refl
    ∙ ap₂ (λ (front rest : List (List ℕ)). front ++ rest) (single_some w all.0.some) (words_spaced (v ∷ vs) all.1)

line_spaced : (ws : List (List ℕ)) → AllByRecursion IsWord ws → IsLine (spaced ws)
line_spaced [] all = refl
line_spaced (w ∷ []) all = all.0.line
line_spaced (w ∷ v ∷ vs) all =
    list_any-append (λ c. c == 10) w (32 ∷ spaced (v ∷ vs))
    ∙ or_from (list_any (λ c. c == 10) w) (list_any (λ c. c == 10) (32 ∷ spaced (v ∷ vs))) all.0.line (line_spaced (v ∷ vs) all.1)

-- ---- what they say

not_word : (n : ℕ) (w : List ℕ) → n < 2 ^ 64 → (number_of w ≡ Some n → ⊥) → bytes_eq (decimal n) w ≡ false
not_word n w low other =
    elim (cases_Bool (bytes_eq (decimal n) w)) [
      | inl is ↦ absurd (other (ap number_of (sym ((bytes_eq-Decides (decimal n) w).0 is)) ∙ number_of-decimal n low))
      | inr not ↦ not
    ]

no_zero : (n : ℕ) → 1 ≤ n → number_of (codes "0") ≡ Some n → ⊥
unfolding number_of is_decimal capped_value
no_zero n some is = let zero : 0 ≡ n = cc (is) in omega (arith, some, zero)

no_letter : (n : ℕ) → number_of (codes "d") ≡ Some n → ⊥
unfolding number_of is_decimal
no_letter n is = cc (is)

says_plain : (w : List ℕ) (n : ℕ) → number_of w ≡ Some n → list_any (λ b. b == 45) w ≡ false → number_word w ≡ says.Number n
unfolding number_of is_decimal
says_plain [] n is none = absurd (cc (is))
says_plain (b ∷ bs) n is none =
    let parts = or_parts (b == 45) (list_any (λ c. c == 45) bs) none in
    let first : (b == 45) ≡ false = parts.0 in
    ap (λ (t : Bool). if t then decimal_said true (number_of bs) else decimal_said false (number_of (b ∷ bs))) first ∙ ap (decimal_said false) is

pub token_decimal : (n : ℕ) → 1 ≤ n → n < 2 ^ 64 → token_of (decimal n) ≡ number n
token_decimal n some low =
    let zero : bytes_eq (decimal n) (codes "0") ≡ false = not_word n (codes "0") low (no_zero n some) in
    let letter : bytes_eq (decimal n) (codes "d") ≡ false = not_word n (codes "d") low (no_letter n) in
    rw (zero, letter) (ap token_by (says_plain (decimal n) n (number_of-decimal n low) (decimal_without 45 n (omega arith) low)))

pub token_minus : (n : ℕ) → n < 2 ^ 64 → token_of (45 ∷ decimal n) ≡ negative n
token_minus n low = ap (λ (o : Option ℕ). token_by (decimal_said true o)) (number_of-decimal n low)

-- ---- what they do

pub id_is : (n : ℕ) → IsId n → id_numbered n ≡ Some n
id_is n is =
    let some : (n == 0) ≡ false = ne_eqb n 0 (λ e. omega (arith, e, is.0)) in
    let few : nat_lt most_id n ≡ false = le-ltb most_id n is.1 in
    rw (some, few) refl

pub id_low : (n : ℕ) → IsId n → n < 2 ^ 64
id_low n is = let most : n ≤ 2 ^ 32 - 1 = is.1 in omega (arith, most)

pub with_is : (v id : ℕ) (before : List ℕ) (sign n l : ℕ) → 1 ≤ n → n ≤ v → 2 * n + sign ≡ l → with_literal v id before sign n ≡ goes_on (literals id (before ++ l ∷ []))
with_is v id before sign n l some few is =
    let a : (n == 0) ≡ false = ne_eqb n 0 (λ e. omega (arith, e, some)) in
    let b : nat_lt v n ≡ false = le-ltb v n few in
    rw (a, b, is) refl

pub odd_one : (l : ℕ) → (l % 2 == 0) ≡ false → l % 2 ≡ 1
odd_one l odd = omega (arith, eqb-false (l % 2) 0 odd)

taken_literal : (v id : ℕ) (before : List ℕ) (l : ℕ) → v < 2 ^ 63 → IsLiteral v l → taken v (literals id before) (token_of (literal_text l)) ≡ goes_on (literals id (before ++ l ∷ []))
taken_literal v id before l few is = at (l % 2 == 0) refl
  where
    at : (b : Bool) → (l % 2 == 0) ≡ b → taken v (literals id before) (token_of (if b then decimal (l / 2) else 45 ∷ decimal (l / 2))) ≡ goes_on (literals id (before ++ l ∷ []))
    at true even =
        let zero : l % 2 ≡ 0 = eqb-true (l % 2) 0 even in
        ap (taken v (literals id before)) (token_decimal (l / 2) (omega (arith, is.0)) (omega (arith, few, is.1)))
        ∙ with_is v id before 0 (l / 2) l (omega (arith, is.0)) (omega (arith, is.1)) (omega (arith, zero))
    at false odd =
        let one : l % 2 ≡ 1 = odd_one l odd in
        ap (taken v (literals id before)) (token_minus (l / 2) (omega (arith, few, is.1)))
        ∙ with_is v id before 1 (l / 2) l (omega (arith, is.0)) (omega (arith, is.1)) (omega (arith, one))

-- ---- a line

abbrev said : ℕ → List (List ℕ) → List Mark
said n words = map (λ w. mark n (token_of w)) words

said_append : (n : ℕ) (xs ys : List (List ℕ)) (more : List Mark) → said n (xs ++ ys) ++ more ≡ said n xs ++ (said n ys ++ more)
said_append n [] ys more = refl
said_append n (x ∷ xs) ys more = ap (λ (ms : List Mark). mark n (token_of x) ∷ ms) (said_append n xs ys more)

literals_read : (v last n id : ℕ) (before clause : List ℕ) (more : List Mark) → v < 2 ^ 63 → AllByRecursion (IsLiteral v) clause
    → reading_from v last (literals id before) (said n (map literal_text clause) ++ more) ≡ reading_from v last (literals id (before ++ clause)) more
literals_read v last n id before [] more few all = ap (λ (c : List ℕ). reading_from v last (literals id c) more) (sym (append-nil before))
literals_read v last n id before (l ∷ ls) more few all =
    ap (by_taken n (λ after. reading_from v last after (said n (map literal_text ls) ++ more))) (taken_literal v id before l few all.0)
    ∙ literals_read v last n id (before ++ l ∷ []) ls more few all.1
    ∙ ap (λ (c : List ℕ). reading_from v last (literals id c) more) (append_assoc before (l ∷ []) ls)

taken_hint : (v id : ℕ) (clause before : List ℕ) (hint : ℕ) → IsId hint → taken v (hints id clause before) (token_of (decimal hint)) ≡ goes_on (hints id clause (before ++ hint ∷ []))
taken_hint v id clause before hint is =
    ap (taken v (hints id clause before)) (token_decimal hint is.0 (id_low hint is))
    ∙ ap (by_id (λ h. goes_on (hints id clause (before ++ h ∷ [])))) (id_is hint is)

hints_read : (v last n id : ℕ) (clause before ids : List ℕ) (more : List Mark) → AllByRecursion IsId ids
    → reading_from v last (hints id clause before) (said n (map decimal ids) ++ more) ≡ reading_from v last (hints id clause (before ++ ids)) more
hints_read v last n id clause before [] more all = ap (λ (c : List ℕ). reading_from v last (hints id clause c) more) (sym (append-nil before))
hints_read v last n id clause before (h ∷ hs) more all =
    ap (by_taken n (λ after. reading_from v last after (said n (map decimal hs) ++ more))) (taken_hint v id clause before h all.0)
    ∙ hints_read v last n id clause (before ++ h ∷ []) hs more all.1
    ∙ ap (λ (c : List ℕ). reading_from v last (hints id clause c) more) (append_assoc before (h ∷ []) hs)

pub to_recursion : {A : Type 0} (P : A → Type 0) (xs : List A) → All P xs → AllByRecursion P xs
to_recursion P [] all = tt
to_recursion P (x ∷ xs) all = (all 0 x (omega arith), to_recursion P xs (λ k d below. all (suc k) d (omega (arith, below))))

taken_first : (v n : ℕ) → IsId n → taken v between (token_of (decimal n)) ≡ goes_on (literals n [])
taken_first v n is = ap (taken v between) (token_decimal n is.0 (id_low n is)) ∙ ap (by_id (λ id. goes_on (literals id []))) (id_is n is)

addition_read : (v last n front id : ℕ) (clause ids : List ℕ) (more : List Mark) → v < 2 ^ 63 → IsId id → AllByRecursion (IsLiteral v) clause → AllByRecursion IsId ids
    → reading_from v last between (said n (step_words front (addition id clause ids)) ++ more) ≡ behind_steps (ended n (addition id clause ids) ∷ []) (reading_from v last between more)
addition_read v last n front id clause ids more few own literal_all id_all =
    let tail : List Mark = said n (map decimal ids ++ codes "0" ∷ []) ++ more in
    ap (by_taken n (λ after. reading_from v last after (said n (map literal_text clause ++ (codes "0" ∷ (map decimal ids ++ codes "0" ∷ []))) ++ more))) (taken_first v id own)
    ∙ ap (reading_from v last (literals id [])) (said_append n (map literal_text clause) (codes "0" ∷ (map decimal ids ++ codes "0" ∷ [])) more)
    ∙ literals_read v last n id [] clause (mark n ends ∷ tail) few literal_all
    ∙ ap (reading_from v last (hints id clause [])) (said_append n (map decimal ids) (codes "0" ∷ []) more)
    ∙ hints_read v last n id clause [] ids (mark n ends ∷ more) id_all

taken_deleted : (v n : ℕ) → IsId n → taken v deletions (token_of (decimal n)) ≡ gives (deletion n) deletions
taken_deleted v n is = ap (taken v deletions) (token_decimal n is.0 (id_low n is)) ∙ ap (by_id (λ id. gives (deletion id) deletions)) (id_is n is)

deletion_read : (v last n front id : ℕ) (more : List Mark) → IsId front → IsId id
    → reading_from v last between (said n (step_words front (deletion id)) ++ more) ≡ behind_steps (ended n (deletion id) ∷ []) (reading_from v last between more)
deletion_read v last n front id more first own =
    ap (by_taken n (λ after. reading_from v last after (mark n deletes ∷ mark n (token_of (decimal id)) ∷ mark n ends ∷ more))) (taken_first v front first)
    ∙ ap (by_taken n (λ after. reading_from v last after (mark n ends ∷ more))) (taken_deleted v id own)

step_read : (v last n front : ℕ) (step : HintedStep) (more : List Mark) → v < 2 ^ 63 → IsId front → IsWritten v step
    → reading_from v last between (said n (step_words front step) ++ more) ≡ behind_steps (ended n step ∷ []) (reading_from v last between more)
step_read v last n front (addition id clause ids) more few first is = addition_read v last n front id clause ids more few is.0 (to_recursion (IsLiteral v) clause is.1) (to_recursion IsId ids is.2)
step_read v last n front (deletion id) more few first is = deletion_read v last n front id more first is

-- ---- lines

literal_words : (v : ℕ) (clause : List ℕ) (ws : List (List ℕ)) → v < 2 ^ 63 → AllByRecursion (IsLiteral v) clause → AllByRecursion IsWord ws → AllByRecursion IsWord (map literal_text clause ++ ws)
literal_words v [] ws few all rest = rest
literal_words v (l ∷ ls) ws few all rest = (literal_word v l few all.0, literal_words v ls ws few all.1 rest)

id_words : (ids : List ℕ) (ws : List (List ℕ)) → AllByRecursion IsId ids → AllByRecursion IsWord ws → AllByRecursion IsWord (map decimal ids ++ ws)
id_words [] ws all rest = rest
id_words (n ∷ ns) ws all rest = (decimal_word n (id_low n all.0), id_words ns ws all.1 rest)

end_word : IsWord (codes "0")
end_word = record { some = refl; plain = refl; line = refl }

letter_word : IsWord (codes "d")
letter_word = record { some = refl; plain = refl; line = refl }

all_words : (v front : ℕ) (step : HintedStep) → v < 2 ^ 63 → IsId front → IsWritten v step → AllByRecursion IsWord (step_words front step)
all_words v front (addition id clause ids) few first is = (
  decimal_word id (id_low id is.0),
  literal_words v clause (codes "0" ∷ (map decimal ids ++ codes "0" ∷ [])) few (to_recursion (IsLiteral v) clause is.1) (end_word, id_words ids (codes "0" ∷ []) (to_recursion IsId ids is.2) (end_word, tt)),
)
all_words v front (deletion id) few first is = (decimal_word front (id_low front first), (letter_word, (decimal_word id (id_low id is), (end_word, tt))))

-- a line begins with a digit
record BeginsDigit (line : List ℕ) : Type 0 where
  byte : ℕ
  rest : List ℕ
  is : line ≡ byte ∷ rest
  digit : is_digit byte ≡ true

first_digit : (w : List ℕ) (ws : List (List ℕ)) → is_nothing w ≡ false → are_digits w ≡ true → BeginsDigit (spaced (w ∷ ws))
first_digit [] ws never all = absurd (cc)
first_digit (b ∷ bs) [] some all = record { byte = b; rest = bs; is = refl; digit = (and_parts (is_digit b) (list_all is_digit bs) all).0 }
first_digit (b ∷ bs) (v ∷ vs) some all = record { byte = b; rest = bs ++ 32 ∷ spaced (v ∷ vs); is = refl; digit = (and_parts (is_digit b) (list_all is_digit bs) all).0 }

line_digit : (v front : ℕ) (step : HintedStep) → IsId front → IsWritten v step → BeginsDigit (step_line front step)
line_digit v front (addition id clause ids) first is =
    first_digit (decimal id) (map literal_text clause ++ (codes "0" ∷ (map decimal ids ++ codes "0" ∷ []))) (decimal_word id (id_low id is.0)).some (decimal_digits id (id_low id is.0))
line_digit v front (deletion id) first is =
    first_digit (decimal front) (codes "d" ∷ decimal id ∷ codes "0" ∷ []) (decimal_word front (id_low front first)).some (decimal_digits front (id_low front first))

no_comment : (line : List ℕ) → BeginsDigit line → is_proof_comment line ≡ false
no_comment line b = ap is_proof_comment b.is ∙ ne_eqb b.byte 99 (λ e. omega (arith, e, (digit_range b.byte b.digit).1))

steps_read : (v last n front : ℕ) (steps : List HintedStep) → v < 2 ^ 63 → IsId front → AllByRecursion (IsWritten v) steps → n + length steps ≤ suc most_proof_lines
    → reading_from v last between (lines_marks n (map (step_line front) steps)) ≡ reads (on_lines n steps)
steps_read v last n front [] few first all enough = refl
steps_read v last n front (step ∷ steps) few first all enough =
    let bound : n + suc (length steps) ≤ suc most_proof_lines = enough in
    let line : nat_lt most_proof_lines n ≡ false = le-ltb most_proof_lines n (omega (arith, bound)) in
    let more : List Mark = lines_marks (suc n) (map (step_line front) steps) in
    let here : line_marks n (step_line front step) ≡ said n (step_words front step) =
    words_line n (step_line front step) line (no_comment (step_line front step) (line_digit v front step first all.0)) ∙ ap (said n) (words_spaced (step_words front step) (all_words v front step few first all.0)) in
    ap (λ (ms : List Mark). reading_from v last between (ms ++ more)) here
    ∙ step_read v last n front step more few first all.0
    ∙ ap (behind_steps (ended n step ∷ [])) (steps_read v last (suc n) front steps few first all.1 (omega (arith, bound)))

-- ---- the text

each_line : (v front : ℕ) (steps : List HintedStep) → v < 2 ^ 63 → IsId front → AllByRecursion (IsWritten v) steps → AllByRecursion IsLine (map (step_line front) steps)
each_line v front [] few first all = tt
each_line v front (step ∷ steps) few first all = (line_spaced (step_words front step) (all_words v front step few first all.0), each_line v front steps few first all.1)

all_of_text : (lines : List (List ℕ)) → AllByRecursion IsLine lines → all_lines (text_of_lines lines) ≡ lines
all_of_text lines each = ap₂ (λ (whole : List (List ℕ)) (rest : List ℕ). whole ++ line_of rest) (lines_of_text lines each) (unfinished_of_text lines) ∙ append-nil lines

is_text : (v front : ℕ) (steps : List HintedStep) → IsId front → AllByRecursion (IsWritten v) steps → is_binary_lrat (lrat_text front steps) ≡ false
is_text v front [] first all = refl
is_text v front (step ∷ steps) first all =
    let b = line_digit v front step first all.0 in
    let range = digit_range b.byte b.digit in
    let rest : List ℕ = text_of_lines (map (step_line front) steps) in
    let no_a : (b.byte == 97) ≡ false = ne_eqb b.byte 97 (λ e. omega (arith, e, range.1)) in
    let no_d : (b.byte == 100) ≡ false = ne_eqb b.byte 100 (λ e. omega (arith, e, range.1)) in
    ap (λ (l : List ℕ). is_binary_lrat ((l ++ 10 ∷ []) ++ rest)) b.is ∙ or_from (b.byte == 97) (b.byte == 100) no_a no_d

pub written_read : (v front : ℕ) (steps : List HintedStep) → v < 2 ^ 63 → IsId front → All (IsWritten v) steps → length steps ≤ most_proof_lines → read_lrat v (lrat_text front steps) ≡ reads (on_lines 1 steps)
written_read v front steps few first all enough =
    let own : AllByRecursion (IsWritten v) steps = to_recursion (IsWritten v) steps all in
    let text : List ℕ = lrat_text front steps in
    let last : ℕ = suc (length (whole_lines text)) in
    ap (λ (t : Bool). if t then read_binary_lrat v text else read_text_lrat v text) (is_text v front steps first own)
    ∙ ap (λ (lines : List (List ℕ)). reading_from v last between (lines_marks 1 lines)) (all_of_text (map (step_line front) steps) (each_line v front steps few first own))
    ∙ steps_read v last 1 front steps few first own (omega (arith, enough))
