-- A text is read as the text of words that says the same.
use Rattle.std.proofs.Common.{◌≡◌, ℕ, zero, suc, nat_le, map, reverse, ◌&&◌, ◌+◌, ◌<◌, ◌≤◌, ◌^◌, ◌==◌, Bool, true, false, cond, List, [], ◌∷◌, ◌++◌, Option, Some, None, IfSome, Result, Ok, Err, decimal, length, flat_map, slice_get, option_and_then, append-nil, refl, sym, ap, subst, ◌∙◌, arith}
use Rattle.std.specs.List.{list_any, list_all}
use Rattle.base.specs.Word.{word}
use Rattle.base.proofs.BitLemmas.{word_below}
use Rattle.std.proofs.lemmas.Bool.{and_parts, eqb-true, or_from, or_parts}
use Rattle.std.proofs.lemmas.List.{length-append, length-map, length-replicate, length-reverse}
use Rattle.std.proofs.lemmas.Option.{none-some, same_Some}
use Rattle.std.proofs.lemmas.List.Folds.{list_any-append}
use Rattle.base.specs.Lines.{IsLine, whole_lines, unfinished}
use Rattle.base.specs.Decimals.{number_of}
use Rattle.base.proofs.LineLemmas.{EachLine, lines_are_lines, unfinished_is_line, whole_lines-lines, whole_lines-last, unfinished-lines, unfinished-last}
use Rattle.base.proofs.DecimalLemmas.{decimal_digits, decimal_without}
use Rattle.std.proofs.lemmas.Fmt.{decimal_nonempty}
use Rattle.full.specs.Lines.{Sort, words, arrays}
use Rattle.witness.specs.declared.why.Why.{Why}
use Rattle.witness.specs.declared.why.Why.TheVariants as why
use Rattle.spread.specs.declared.spreader.Part.{Part}
use Rattle.spread.specs.declared.spreader.Part.TheVariants as part
use Rattle.spread.specs.Stands.{part_behind, part_at}
use Rattle.spread.proofs.AssignedLemmas.{digits_begin_none}
use Rattle.spread.proofs.AdmittedLemmas.{part_opens}
use Rattle.witness.specs.Texts.{Shape, symbol_part, is_comment, most_lines}
use Rattle.witness.specs.Readings.{Reader, Reading, so_far, one_more_line, next_line, lines_behind, lines_read, reading, read_or_fault, text_read}
use Rattle.witness.specs.Admits.{Place, AtStatus, AtClaims, AtParts, InStates, InFrame, AtEnd, Read, nothing_read, admit, begins_part, cut_at_space, word_reader, is_at_end, is_bit}
use Rattle.witness.specs.Judgements.{makes_no_claim}
use Rattle.witness.proofs.PieceLemmas.{parts_of_cut}
use Rattle.fulljudge.specs.Shapes.{FullShape, word_count, word_width, word_widths, word_shape, first_index}
use Rattle.fulljudge.specs.Lines.{in_brackets, digits_number, address_of, indexed, value_line, line_by_index, word_line, line_in, line_at, full_reader, line_in_part, lines_of_words, words_text}
use Rattle.fulljudge.proofs.ReadingLemmas.{AdmitsWords, line_read}

-- ---- lines

-- the number is one of so many bits, where the words can be counted
abbrev pub IsCounted : List Sort → Type 0
IsCounted sorts = length (flat_map word_widths sorts) < 2 ^ 64

cut_lines : (line : List ℕ) → IsLine line → IsLine (symbol_part (cut_at_space line).1)
cut_lines line is =
    (or_parts (list_any (λ b. b == 10) (cut_at_space line).0) (list_any (λ b. b == 10) (symbol_part (cut_at_space line).1))
    (sym (list_any-append (λ b. b == 10) (cut_at_space line).0 (symbol_part (cut_at_space line).1)) ∙ ap (list_any (λ b. b == 10)) (parts_of_cut line) ∙ is)).1

-- where the words of a value stand
pub first_within : (sorts : List Sort) (i : ℕ) (s : Sort) → slice_get sorts i ≡ Some s → first_index sorts i + word_count s ≤ length (flat_map word_widths sorts)
first_within [] i s e = absurd (cc)
first_within (t ∷ ts) zero s e =
    let same : t ≡ s = same_Some t s e in
    let whole : length (word_widths t ++ flat_map word_widths ts) ≡ word_count t + length (flat_map word_widths ts) = length-append (word_widths t) (flat_map word_widths ts) ∙ ap (λ (n : ℕ). n + length (flat_map word_widths ts)) (length-replicate (word_count t) (word_width t)) in
    subst (λ (u : Sort). 0 + word_count u ≤ length (word_widths t ++ flat_map word_widths ts)) same (omega (arith, whole))
first_within (t ∷ ts) (suc i) s e =
    let whole : length (word_widths t ++ flat_map word_widths ts) ≡ word_count t + length (flat_map word_widths ts) = length-append (word_widths t) (flat_map word_widths ts) ∙ ap (λ (n : ℕ). n + length (flat_map word_widths ts)) (length-replicate (word_count t) (word_width t)) in
    omega (arith, whole, first_within ts i s e)

-- an address is one of a cell
pub address_below : (k : ℕ) (token : List ℕ) (a : ℕ) → address_of k token ≡ Some a → a < 2 ^ k
address_below k token a e = by (in_brackets token) refl
  where
    by_test : (digits : List ℕ) (b : Bool) → ((length digits == k) && list_all is_bit digits) ≡ b → cond b (Some (word (reverse (map (λ c. c == 49) digits)))) None ≡ Some a → a < 2 ^ k
    by_test digits false t e = absurd (none-some a e)
    by_test digits true t e =
        let long : length digits ≡ k = eqb-true (length digits) k (and_parts (length digits == k) (list_all is_bit digits) t).0 in
        let count : length (reverse (map (λ c. c == 49) digits)) ≡ k = length-reverse (map (λ c. c == 49) digits) ∙ length-map digits (λ c. c == 49) ∙ long in
        subst (λ (x : ℕ). x < 2 ^ k) (same_Some (word (reverse (map (λ c. c == 49) digits))) a e) (subst (λ (n : ℕ). word (reverse (map (λ c. c == 49) digits)) < 2 ^ n) count (word_below (reverse (map (λ c. c == 49) digits))))

    by : (o : Option (List ℕ)) → in_brackets token ≡ o → a < 2 ^ k
    by None h = absurd (none-some a (sym (ap (option_and_then (digits_number k)) h) ∙ e))
    by (Some digits) h = by_test digits ((length digits == k) && list_all is_bit digits) refl (sym (ap (option_and_then (digits_number k)) h) ∙ e)

-- the index that a line of a word begins with, where it names one
abbrev pub Names : List Sort → Option ℕ → Type 0
Names sorts o = IfSome o (λ i. i < length (flat_map word_widths sorts))

indexed_is_line : (sorts : List Sort) (o : Option ℕ) (rest : Option (List ℕ)) → IsCounted sorts → Names sorts o → IsLine (symbol_part rest) → IsLine (indexed o rest)
indexed_is_line sorts None rest few names is = refl
indexed_is_line sorts (Some i) rest few names is =
    list_any-append (λ b. b == 10) (decimal i) (symbol_part rest) ∙ or_from _ _ (decimal_without 10 i (omega arith) (omega (arith, few, names))) is

pub named_first : (sorts : List Sort) (i n : ℕ) → slice_get sorts i ≡ Some (words n) → Names sorts (Some (first_index sorts i))
named_first sorts i n e = omega (arith, first_within sorts i (words n) e)

pub cell_named : (sorts : List Sort) (i k n : ℕ) (token : List ℕ) → slice_get sorts i ≡ Some (arrays k n) → Names sorts (option_and_then (λ a. Some (first_index sorts i + a)) (address_of k token))
cell_named sorts i k n token e = by (address_of k token) refl
  where
    by : (o : Option ℕ) → address_of k token ≡ o → Names sorts (option_and_then (λ a. Some (first_index sorts i + a)) o)
    by None h = tt
    by (Some a) h = omega (arith, address_below k token a h, first_within sorts i (arrays k n) e)

value_is_line : (sorts : List Sort) (i : ℕ) (o : Option Sort) (rest : Option (List ℕ)) → IsCounted sorts → slice_get sorts i ≡ o → IsLine (symbol_part rest) → IsLine (value_line (first_index sorts i) o rest)
value_is_line sorts i None rest few e is = refl
value_is_line sorts i (Some (words n)) rest few e is = indexed_is_line sorts (Some (first_index sorts i)) rest few (named_first sorts i n e) is
value_is_line sorts i (Some (arrays k n)) None few e is = refl
value_is_line sorts i (Some (arrays k n)) (Some rest) few e is =
    let behind : IsLine rest = (or_parts false (list_any (λ b. b == 10) rest) is).1 in
    indexed_is_line sorts (option_and_then (λ a. Some (first_index sorts i + a)) (address_of k (cut_at_space rest).0)) (cut_at_space rest).1 few (cell_named sorts i k n (cut_at_space rest).0 e) (cut_lines rest behind)

by_index_is_line : (sorts : List Sort) (o : Option ℕ) (rest : Option (List ℕ)) → IsCounted sorts → IsLine (symbol_part rest) → IsLine (line_by_index sorts o rest)
by_index_is_line sorts None rest few is = refl
by_index_is_line sorts (Some i) rest few is = value_is_line sorts i (slice_get sorts i) rest few refl is

word_line_is_line : (sorts : List Sort) (line : List ℕ) → IsCounted sorts → IsLine line → IsLine (word_line sorts line)
unfolding word_line
word_line_is_line sorts line few is = by_index_is_line sorts (number_of (cut_at_space line).0) (cut_at_space line).1 few (cut_lines line is)

pub in_is_line : (sorts : List Sort) (line : List ℕ) → IsCounted sorts → IsLine line → IsLine (line_in sorts line)
in_is_line sorts line few is = by (begins_part line)
  where
    by : (b : Bool) → IsLine (cond b line (word_line sorts line))
    by true = is
    by false = word_line_is_line sorts line few is

-- the words of states, and of inputs, can be counted
pub record AreCounted (shape : FullShape) : Type 0 where
  pub states : IsCounted shape.states
  pub inputs : IsCounted shape.inputs

pub in_part_is_line : (shape : FullShape) (p : Part) (line : List ℕ) → AreCounted shape → IsLine line → IsLine (line_in_part shape p line)
in_part_is_line shape part.Outside line few is = is
in_part_is_line shape part.States line few is = in_is_line shape.states line few.states is
in_part_is_line shape part.Inputs line few is = in_is_line shape.inputs line few.inputs is

words_are_lines : (shape : FullShape) (p : Part) (lines : List (List ℕ)) → AreCounted shape → EachLine lines → EachLine (lines_of_words shape p lines)
words_are_lines shape p [] few each = tt
words_are_lines shape p (line ∷ lines) few each = (in_part_is_line shape p line few each.0, words_are_lines shape (part_behind p line) lines few each.1)

-- the whole lines of the text of words, and what stands behind them
module _ (shape : FullShape) (few : AreCounted shape) (text : List ℕ) where
  abbrev words_of_text : List (List ℕ)
  words_of_text = lines_of_words shape part.Outside (whole_lines text)

  pub words_lines : whole_lines (words_text shape text) ≡ words_of_text
  words_lines =
      whole_lines-lines words_of_text (unfinished text) (words_are_lines shape part.Outside (whole_lines text) few (lines_are_lines text))
      ∙ (ap (λ (ls : List (List ℕ)). words_of_text ++ ls) (whole_lines-last (unfinished text) (unfinished_is_line text)) ∙ append-nil words_of_text)

  words_rest : unfinished (words_text shape text) ≡ unfinished text
  words_rest = unfinished-lines words_of_text (unfinished text) ∙ unfinished-last (unfinished text) (unfinished_is_line text)

-- ---- which part is open

stays_open : (p : Part) (line : List ℕ) → begins_part line ≡ false → part_behind p line ≡ p
stays_open p [] h = refl
stays_open p (b ∷ bs) h =
    let first = or_parts (b == 35) _ h in
    let rest = or_parts (b == 64) (b == 46) first.1 in
    rw (first.0, rest.0, rest.1) refl

indexed_begins_none : (sorts : List Sort) (o : Option ℕ) (rest : Option (List ℕ)) → IsCounted sorts → Names sorts o → begins_part (indexed o rest) ≡ false
indexed_begins_none sorts None rest few names = refl
indexed_begins_none sorts (Some i) rest few names =
    let lt : i < 2 ^ 64 = omega (arith, few, names) in digits_begin_none (decimal i) (symbol_part rest) (decimal_digits i lt) (decimal_nonempty i lt)

value_begins_none : (sorts : List Sort) (i : ℕ) (o : Option Sort) (rest : Option (List ℕ)) → IsCounted sorts → slice_get sorts i ≡ o → begins_part (value_line (first_index sorts i) o rest) ≡ false
value_begins_none sorts i None rest few e = refl
value_begins_none sorts i (Some (words n)) rest few e = indexed_begins_none sorts (Some (first_index sorts i)) rest few (named_first sorts i n e)
value_begins_none sorts i (Some (arrays k n)) None few e = refl
value_begins_none sorts i (Some (arrays k n)) (Some rest) few e =
    indexed_begins_none sorts (option_and_then (λ a. Some (first_index sorts i + a)) (address_of k (cut_at_space rest).0)) (cut_at_space rest).1 few (cell_named sorts i k n (cut_at_space rest).0 e)

by_index_begins_none : (sorts : List Sort) (o : Option ℕ) (rest : Option (List ℕ)) → IsCounted sorts → begins_part (line_by_index sorts o rest) ≡ false
by_index_begins_none sorts None rest few = refl
by_index_begins_none sorts (Some i) rest few = value_begins_none sorts i (slice_get sorts i) rest few refl

word_begins_none : (sorts : List Sort) (line : List ℕ) → IsCounted sorts → begins_part (word_line sorts line) ≡ false
unfolding word_line
word_begins_none sorts line few = by_index_begins_none sorts (number_of (cut_at_space line).0) (cut_at_space line).1 few

-- the line of a word leaves the part open that the line of the value does
opens_alike : (sorts : List Sort) (p : Part) (line : List ℕ) → IsCounted sorts → part_behind p (line_in sorts line) ≡ part_behind p line
opens_alike sorts p line few = by (begins_part line) refl
  where
    by : (b : Bool) → begins_part line ≡ b → part_behind p (cond b line (word_line sorts line)) ≡ part_behind p line
    by true e = refl
    by false e = stays_open p (word_line sorts line) (word_begins_none sorts line few) ∙ sym (stays_open p line e)

at_opens_alike : (shape : FullShape) (at : Place) (p : Part) (line : List ℕ) → AreCounted shape → part_behind p (line_at shape at line) ≡ part_behind p line
at_opens_alike shape InStates p line few = opens_alike shape.states p line few.states
at_opens_alike shape InFrame p line few = opens_alike shape.inputs p line few.inputs
at_opens_alike shape AtStatus p line few = refl
at_opens_alike shape AtClaims p line few = refl
at_opens_alike shape AtParts p line few = refl
at_opens_alike shape AtEnd p line few = refl

-- ---- what is read

in_its_part : (shape : FullShape) (at : Place) (line : List ℕ) → line_in_part shape (part_at at) line ≡ line_at shape at line
in_its_part shape InStates line = refl
in_its_part shape InFrame line = refl
in_its_part shape AtStatus line = refl
in_its_part shape AtClaims line = refl
in_its_part shape AtParts line = refl
in_its_part shape AtEnd line = refl

-- the open part is known, while no line is refused
abbrev pub KnowsPart : Part → Reading Read → Type 0
KnowsPart p g = g.refused ≡ None → p ≡ part_at g.read.place

behind_refused : {R : Type 0} (reader : Reader R) (g : Reading R) (line : List ℕ) (w : Why) → g.refused ≡ Some w → next_line reader g line ≡ g
unfolding next_line
behind_refused reader g line w e = rw e refl

all_behind_refused : {R : Type 0} (reader : Reader R) (g : Reading R) (lines : List (List ℕ)) (w : Why) → g.refused ≡ Some w → lines_behind reader g lines ≡ g
all_behind_refused reader g [] w e = refl
all_behind_refused reader g (line ∷ lines) w e = ap (λ h. lines_behind reader h lines) (behind_refused reader g line w e) ∙ all_behind_refused reader g lines w e

module _ (shape : FullShape) (few : AreCounted shape) (bads : shape.bads < 2 ^ 64) where
  -- the part is known behind a line
  still_known : (g : Reading Read) (line : List ℕ) → g.refused ≡ None → KnowsPart (part_behind (part_at g.read.place) line) (next_line (full_reader shape) g line)
  unfolding next_line
  still_known g line none = rw none (by (nat_le most_lines g.admitted) (admit (word_shape shape) g.read (line_at shape g.read.place line)) refl)
    where
      by : (b : Bool) (o : Result Read Why) → admit (word_shape shape) g.read (line_at shape g.read.place line) ≡ o
          → KnowsPart (part_behind (part_at g.read.place) line) (cond b (record g { refused = Some why.TooLong }) (one_more_line g o))
      by true o e = λ f. absurd (cc f)
      by false (Err w) e = λ f. absurd (cc f)
      by false (Ok next) e = λ f.
          sym (at_opens_alike shape g.read.place (part_at g.read.place) line few) ∙ part_opens (word_shape shape) bads g.read (line_at shape g.read.place line) next e

  -- the lines of words are read as the lines are
  pub lines_alike : (over : Shape) (g : Reading Read) (p : Part) (lines : List (List ℕ)) → KnowsPart p g → AdmitsWords shape over → lines_behind (word_reader over) g (lines_of_words shape p lines) ≡ lines_behind (full_reader shape) g lines
  lines_alike over g p [] known admits = refl
  lines_alike over g p (line ∷ lines) known admits = by g.refused refl (λ next known. lines_alike over next (part_behind p line) lines known admits)
    where
      by : (o : Option Why) → g.refused ≡ o
          → ((next : Reading Read) → KnowsPart (part_behind p line) next → lines_behind (word_reader over) next (lines_of_words shape (part_behind p line) lines) ≡ lines_behind (full_reader shape) next lines)
          → lines_behind (word_reader over) g (lines_of_words shape p (line ∷ lines)) ≡ lines_behind (full_reader shape) g (line ∷ lines)
      by (Some w) e rest = all_behind_refused (word_reader over) g (lines_of_words shape p (line ∷ lines)) w e ∙ sym (all_behind_refused (full_reader shape) g (line ∷ lines) w e)
      by None e rest =
          let same : line_in_part shape p line ≡ line_at shape g.read.place line = ap (λ (q : Part). line_in_part shape q line) (known e) ∙ in_its_part shape g.read.place line in
          let step : next_line (word_reader over) g (line_in_part shape p line) ≡ next_line (full_reader shape) g line = ap (next_line (word_reader over) g) same ∙ sym (line_read shape over g line admits) in
          ap (λ (h : Reading Read). lines_behind (word_reader over) h (lines_of_words shape (part_behind p line) lines)) step
          ∙ rest (next_line (full_reader shape) g line) (subst (λ (q : Part). KnowsPart (part_behind q line) (next_line (full_reader shape) g line)) (sym (known e)) (still_known g line e))

  module _ (text : List ℕ) where
    abbrev of_words : List (List ℕ)
    of_words = lines_of_words shape part.Outside (whole_lines text)

    all_alike : (over : Shape) → AdmitsWords shape over → lines_behind (word_reader over) (so_far 0 nothing_read) of_words ≡ lines_behind (full_reader shape) (so_far 0 nothing_read) (whole_lines text)
    all_alike over admits = lines_alike over (so_far 0 nothing_read) part.Outside (whole_lines text) (λ e. refl) admits

    -- a text reads as the text of words does
    pub reads_alike : (over : Shape) → AdmitsWords shape over → text_read (word_reader over) (words_text shape text) ≡ text_read (full_reader shape) text
    unfolding reading
    reads_alike over admits =
        ap (λ (ls : List (List ℕ)). read_or_fault (λ r. is_at_end r.place) (lines_read (word_reader over) ls) (unfinished (words_text shape text)) (lines_read (word_reader over) ls).refused) (words_lines shape few text)
        ∙ (ap (λ (g : Reading Read). read_or_fault (λ r. is_at_end r.place) g (unfinished (words_text shape text)) g.refused) (all_alike over admits)
        ∙ ap (λ (l : List ℕ). read_or_fault (λ r. is_at_end r.place) (lines_read (full_reader shape) (whole_lines text)) l (lines_read (full_reader shape) (whole_lines text)).refused) (words_rest shape few text))

-- ---- whether there is a claim

claims_go : (shape : FullShape) (n : ℕ) (lines : List (List ℕ)) → makes_no_claim n (lines_of_words shape part.Outside lines) ≡ makes_no_claim n lines
claims_go shape n [] = refl
claims_go shape n (line ∷ lines) = by (is_comment line) refl (claims_go shape (n + 1) lines)
  where
    opens_none : (line : List ℕ) → is_comment line ≡ true → part_behind part.Outside line ≡ part.Outside
    opens_none [] h = refl
    opens_none (b ∷ bs) h = let is : b ≡ 59 = eqb-true b 59 h in rw is refl

    by : (b : Bool) → is_comment line ≡ b → makes_no_claim (n + 1) (lines_of_words shape part.Outside lines) ≡ makes_no_claim (n + 1) lines → makes_no_claim n (lines_of_words shape part.Outside (line ∷ lines)) ≡ makes_no_claim n (line ∷ lines)
    by true e rest = rw (e, opens_none line e, rest) refl
    by false e rest = rw e refl

pub claims_alike : (shape : FullShape) (text : List ℕ) → AreCounted shape → shape.bads < 2 ^ 64 → makes_no_claim 0 (whole_lines (words_text shape text)) ≡ makes_no_claim 0 (whole_lines text)
claims_alike shape text few bads = ap (makes_no_claim 0) (words_lines shape few text) ∙ claims_go shape 0 (whole_lines text)
