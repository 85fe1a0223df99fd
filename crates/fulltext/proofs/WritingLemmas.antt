-- Lines piece by piece.
use Rattle.std.proofs.Common.{◌≡◌, ℕ, zero, suc, ◌+◌, ◌-◌, ◌^◌, ◌<◌, ◌≤◌, ◌&&◌, true, Bool, nat_eq, Option, None, pos, negsuc, neg_ℤ, List, [], ◌∷◌, ◌++◌, length, get_or, false, decimal, map, drop, drop-cons, add-one, refl, sym, ap, subst, ◌∙◌, append_assoc, append-nil, arith}
use Rattle.std.specs.Option.{option_to_list}
use Rattle.std.specs.Prelude.{int_le, int_lt}
use Rattle.std.specs.List.{AllByRecursion, list_all}
use Rattle.std.proofs.Math.Pow.{pow-lt}
use Rattle.std.proofs.lemmas.Nat.{pow_pos}
use Rattle.std.proofs.lemmas.Bool.{and_parts, leb-true, ltb-true, ne_eqb}
use Rattle.wide.specs.Lines.{number_of_digits}
use Rattle.wide.proofs.NumberLemmas.{AreDigits, zeros_by}
use Rattle.fullmodel.specs.declared.line.Line.{Line}
use Rattle.fullmodel.specs.declared.line.Says.{Says as Kept}
use Rattle.fullmodel.specs.declared.line.Says.TheVariants as says
use Rattle.fullmodel.specs.Lines.{says_of, line_of}
use Rattle.fullmodel.specs.FullModels.{line_refusal, IsAccepted, IsAcceptedAfter}
use Rattle.fullmodel.proofs.RowLemmas.{accepted_push}
use Rattle.fullmodel.proofs.AgreeLemmas.{line_agrees}
use Rattle.fulltext.proofs.LongLemmas.{long_same}
use Rattle.fulltext.proofs.BoundLemmas.{sort_most}
use Rattle.btor2.specs.declared.item.Body.{Body}
use Rattle.btor2.specs.declared.item.Body.TheVariants as body
use Rattle.btor2.specs.Items.{operands}
use Rattle.wide.specs.declared.constant.Spelling.{Spelling}
use Rattle.wide.specs.declared.constant.Spelling.TheVariants as spelling
use Rattle.wide.specs.Lines.{constant_body}
use Rattle.btor2text.specs.Reading.{Tokens}
use Rattle.btor2text.specs.Writing.{behind_spaces, in_front, justice_operands}
use Rattle.btor2text.proofs.WritingLemmas.{front_is}
use Rattle.full.specs.Lines.{with_minuses, Says, form, array_sort, read, write, FullLine, sort_at, size_of}
use Rattle.fulltext.specs.Spelling.{operand_token, array_tokens}
use Rattle.fulltext.specs.Reading.{numbered}
use Rattle.fulltext.specs.Writing.{head_tokens, tail_tokens, says_tokens, long_decimal, signed_long, written_line, written_full}
use Rattle.fulltext.specs.Pieces.{HasRoom, HasShortDecimal, IsArrayLine, constant_word, digits_token, minus_before}

first_apart : (n : ℕ) (rest : List ℕ) (ms : List Bool) → behind_spaces (map operand_token (with_minuses (n ∷ rest) ms)) ≡ in_front (map operand_token (with_minuses (n ∷ []) ms)) [] ++ behind_spaces (map operand_token (with_minuses rest (drop 1 ms)))
first_apart n rest [] = ap (λ (l : List ℕ). l ++ behind_spaces (map operand_token (with_minuses rest []))) (sym (append-nil (32 ∷ operand_token (record { id = n; minus = false }))))
first_apart n rest (m ∷ ms) = ap (λ (l : List ℕ). l ++ behind_spaces (map operand_token (with_minuses rest ms))) (sym (append-nil (32 ∷ operand_token (record { id = n; minus = m }))))

pub operands_at : (i : ℕ) (ids : List ℕ) (n d : ℕ) (ms : List Bool) → i < length ids → n ≡ get_or ids i d
    → behind_spaces (map operand_token (with_minuses (drop i ids) ms)) ≡ in_front (map operand_token (with_minuses (n ∷ []) ms)) [] ++ behind_spaces (map operand_token (with_minuses (drop (i + 1) ids) (drop 1 ms)))
operands_at i ids n d ms lt e =
    subst (λ (x : ℕ). behind_spaces (map operand_token (with_minuses (drop i ids) ms)) ≡ in_front (map operand_token (with_minuses (x ∷ []) ms)) [] ++ behind_spaces (map operand_token (with_minuses (drop (i + 1) ids) (drop 1 ms))))
    (sym e) (rw (drop-cons ids i d lt, add-one i) (first_apart (get_or ids i d) (drop (suc i) ids) ms))

pub front_then : (xs ys : Tokens) (rest : List ℕ) → in_front (xs ++ ys) rest ≡ in_front xs (in_front ys rest)
front_then [] ys rest = refl
front_then (x ∷ xs) ys rest = ap (λ (l : List ℕ). 32 ∷ x ++ l) (front_then xs ys rest)

-- the line of some tokens from its end to its front
pub line_in_front : (x : FullLine) → written_line x ≡ decimal x.id ++ in_front (says_tokens x.says) (in_front (option_to_list x.symbol) (10 ∷ []))
line_in_front x = ap (λ (l : List ℕ). decimal x.id ++ l) (front_is (says_tokens x.says ++ option_to_list x.symbol) (10 ∷ []) ∙ front_then (says_tokens x.says) (option_to_list x.symbol) (10 ∷ []))

front_apart : (tokens : Tokens) (rest : List ℕ) → in_front tokens rest ≡ in_front tokens [] ++ rest
front_apart [] rest = refl
front_apart (token ∷ tokens) rest = ap (λ (l : List ℕ). 32 ∷ token ++ l) (front_apart tokens rest) ∙ sym (append_assoc (32 ∷ token) (in_front tokens []) rest)

constant_tokens : (sp : Spelling) (s count v : ℕ) → says_tokens (form (constant_body sp s count v) []) ≡ constant_word sp ∷ decimal s ∷ digits_token sp count v ∷ []
constant_tokens spelling.Binary s count v = refl
constant_tokens _ s count v = refl

-- two tokens and a space, and then a third
words_apart : (word sort token rest : List ℕ) → in_front (word ∷ sort ∷ token ∷ []) rest ≡ in_front (word ∷ sort ∷ []) (32 ∷ []) ++ (token ++ rest)
words_apart word sort token rest = front_then (word ∷ sort ∷ []) (token ∷ []) rest ∙ (front_apart (word ∷ sort ∷ []) (32 ∷ token ++ rest) ∙ (sym (append_assoc (in_front (word ∷ sort ∷ []) []) (32 ∷ []) (token ++ rest)) ∙ ap (λ (l : List ℕ). l ++ (token ++ rest)) (sym (front_apart (word ∷ sort ∷ []) (32 ∷ [])))))

module _ (id : ℕ) (symbol : Option (List ℕ)) where
  -- the end of a line
  abbrev end : List ℕ
  end = in_front (option_to_list symbol) (10 ∷ [])

  pub form_line : (b : Body) (ms : List Bool) → written_line (numbered id symbol (form b ms)) ≡ decimal id ++ in_front (head_tokens b) (in_front (map operand_token (with_minuses (operands b) ms)) (in_front (tail_tokens b) end))
  form_line b ms =
      let ids = map operand_token (with_minuses (operands b) ms) in
      line_in_front (numbered id symbol (form b ms))
      ∙ ap (λ (l : List ℕ). decimal id ++ l) (front_then (head_tokens b) (ids ++ tail_tokens b) end ∙ ap (in_front (head_tokens b)) (front_then ids (tail_tokens b) end))

  -- in three pieces, where it is a justice line that names nodes
  pub form_pieces : (b : Body) (ms : List Bool) → false ≡ nat_eq (length (justice_operands b)) 0
      → written_line (numbered id symbol (form b ms)) ≡ (decimal id ++ in_front (head_tokens b) []) ++ (behind_spaces (map operand_token (with_minuses (justice_operands b) ms)) ++ end)
  form_pieces (body.Justice nodes) ms some =
      let ids = map operand_token (with_minuses nodes ms) in
      let head = head_tokens (body.Justice nodes) in
      form_line (body.Justice nodes) ms
      ∙ ap (λ (l : List ℕ). decimal id ++ l) (front_apart head (in_front ids end) ∙ ap (λ (l : List ℕ). in_front head [] ++ l) (sym (front_is ids end)))
      ∙ sym (append_assoc (decimal id) (in_front head []) (behind_spaces ids ++ end))
  form_pieces (body.Sort n) ms some = absurd cc
  form_pieces _ ms some = absurd cc

  -- of a constant in digits
  pub constant_pieces : (sp : Spelling) (s count v : ℕ) → written_line (numbered id symbol (form (constant_body sp s count v) [])) ≡ (decimal id ++ in_front (constant_word sp ∷ decimal s ∷ []) (32 ∷ [])) ++ (digits_token sp count v ++ end)
  constant_pieces sp s count v =
      let token = digits_token sp count v in
      let tokens : says_tokens (form (constant_body sp s count v) []) ≡ constant_word sp ∷ decimal s ∷ token ∷ [] = constant_tokens sp s count v in
      line_in_front (numbered id symbol (form (constant_body sp s count v) []))
      ∙ ap (λ (ts : Tokens). decimal id ++ in_front ts end) tokens
      ∙ ap (λ (l : List ℕ). decimal id ++ l) (words_apart (constant_word sp) (decimal s) token end)
      ∙ sym (append_assoc (decimal id) (in_front (constant_word sp ∷ decimal s ∷ []) (32 ∷ [])) (token ++ end))

  -- of what is no form
  pub array_line : (b : Says) → IsArrayLine b → written_line (numbered id symbol b) ≡ decimal id ++ in_front (array_tokens b) end
  array_line (form b ms) none = absurd none
  array_line (array_sort index element) none = line_in_front (numbered id symbol (array_sort index element))
  array_line (read s array index) none = line_in_front (numbered id symbol (read s array index))
  array_line (write s array index word) none = line_in_front (numbered id symbol (write s array index word))

-- ---- numbers

pub one_word : (ds : List ℕ) → length ds ≡ 1 → AreDigits ds → long_decimal (number_of_digits ds) ≡ decimal (get_or ds 0 0)
one_word [] one h = absurd (omega (arith, one))
one_word (d ∷ []) one h =
    let own : number_of_digits (d ∷ []) ≡ d = omega arith in
    ap long_decimal own ∙ long_same d (h 0)
one_word (d ∷ e ∷ ds) one h = absurd (omega (arith, one))

pub negative : (v : ℕ) → signed_long (neg_ℤ (pos v)) ≡ minus_before v ++ long_decimal v
negative zero = refl
negative (suc n) = rw (ne_eqb (suc n) 0 (λ e. omega (arith, e))) refl

pub no_minus : (ds : List ℕ) → list_all (λ d. nat_eq d 0) ds ≡ true → minus_before (number_of_digits ds) ≡ []
no_minus ds all = rw (sym (zeros_by ds) ∙ all) refl

pub some_minus : (ds : List ℕ) → list_all (λ d. nat_eq d 0) ds ≡ false → minus_before (number_of_digits ds) ≡ 45 ∷ []
some_minus ds all = rw (sym (zeros_by ds) ∙ all) refl

-- ---- lines of a model

pub lines_at : (i : ℕ) (lines : List Line) (x d : Line) → i < length lines → x ≡ get_or lines i d → written_full (map line_of (drop i lines)) ≡ written_line (line_of x) ++ written_full (map line_of (drop (i + 1) lines))
lines_at i lines x d lt e =
    subst (λ (y : Line). written_full (map line_of (drop i lines)) ≡ written_line (line_of y) ++ written_full (map line_of (drop (i + 1) lines))) (sym e) (rw (drop-cons lines i d lt, add-one i) refl)

-- ---- a decimal that fits its sort

room_below : (n v : ℕ) → n ≤ 1048576 → (int_le (neg_ℤ (pos (2 ^ (n - 1)))) (pos v) && int_lt (pos v) (pos (2 ^ n))) ≡ true → HasRoom v
room_below n v most h = record { bits = n; most = most; below = ltb-true v (2 ^ n) (and_parts (int_le (neg_ℤ (pos (2 ^ (n - 1)))) (pos v)) (int_lt (pos v) (pos (2 ^ n))) h).1 }

negative_least : (m k : ℕ) → 1 ≤ m → int_le (neg_ℤ (pos m)) (negsuc k) ≡ true → suc k ≤ m
negative_least zero k least h = absurd (omega (arith, least))
negative_least (suc m) k least h = omega (arith, leb-true k m h)

room_negative : (n v : ℕ) → n ≤ 1048576 → (int_le (neg_ℤ (pos (2 ^ (n - 1)))) (neg_ℤ (pos v)) && int_lt (neg_ℤ (pos v)) (pos (2 ^ n))) ≡ true → HasRoom v
room_negative n zero most h = record { bits = 0; most = omega arith; below = omega arith }
room_negative n (suc k) most h =
    let parts = and_parts (int_le (neg_ℤ (pos (2 ^ (n - 1)))) (negsuc k)) (int_lt (negsuc k) (pos (2 ^ n))) h in
    let least = negative_least (2 ^ (n - 1)) k (pow_pos (n - 1)) parts.0 in
    let more : 2 ^ (n - 1) < 2 ^ suc (n - 1) = pow-lt (omega arith) in
    record { bits = suc (n - 1); most = omega (arith, most); below = omega (arith, least, more) }

short_said : (before : List FullLine) (id : ℕ) (symbol : Option (List ℕ)) (s : Kept) → IsAccepted before → line_refusal before (numbered id symbol (says_of s)) ≡ None → HasShortDecimal s
short_said before id symbol (says.Constant sort spelling.Decimal count number) h r =
    room_below (size_of (sort_at before sort)) (number_of_digits number.items) (sort_most before sort h) (line_agrees before _ r).agrees.2
short_said before id symbol (says.Constant sort spelling.Negative count number) h r =
    room_negative (size_of (sort_at before sort)) (number_of_digits number.items) (sort_most before sort h) (line_agrees before _ r).agrees.2
short_said before id symbol (says.Constant sort spelling.Binary count number) h r = tt
short_said before id symbol (says.Constant sort spelling.Hexadecimal count number) h r = tt
short_said before id symbol (says.Form b minuses) h r = tt
short_said before id symbol (says.ArraySort index element) h r = tt
short_said before id symbol (says.Read s array index) h r = tt
short_said before id symbol (says.Write s array index word) h r = tt

short_after : (before : List FullLine) (lines : List Line) → IsAccepted before → IsAcceptedAfter before (map line_of lines) → AllByRecursion (λ (x : Line). HasShortDecimal x.says) lines
short_after before [] h after = tt
short_after before (x ∷ xs) h after = (short_said before x.id x.symbol x.says h after.0, short_after (before ++ line_of x ∷ []) xs (accepted_push before (line_of x) h after.0) after.1)

pub short_lines : (lines : List Line) → IsAccepted (map line_of lines) → AllByRecursion (λ (x : Line). HasShortDecimal x.says) lines
short_lines lines h = short_after [] lines tt h
