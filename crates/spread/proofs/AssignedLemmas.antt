-- A line of an assignment and the lines that go on for it are admitted alike, and refused for the same why.
use Rattle.std.proofs.Common.{◌≡◌, ℕ, zero, suc, ◌+◌, ◌/◌, ◌%◌, ◌<◌, ◌≤◌, ◌^◌, ◌==◌, min, Bool, true, false, cond, ◌&&◌, List, [], ◌∷◌, ◌++◌, Option, Some, None, Result, Ok, Err, decimal, length, map, reverse, replicate, slice_index, append_assoc, append-nil, inl, inr, ◌⊎◌, refl, sym, ap, subst, ◌∙◌, arith}
use Rattle.std.specs.List.{list_any, list_all}
use Rattle.std.proofs.lemmas.Bool.{cases_lt, ne_eqb, eq-eqb, or_from, or_parts, and_parts, and_from, lt-ltb, le-ltb, lt-leb}
use Rattle.std.proofs.lemmas.List.{length-replicate}
use Rattle.std.proofs.lemmas.List.Concat.{flat_map-append}
use Rattle.std.proofs.lemmas.Fmt.{decimal_nonempty}
use Rattle.base.specs.Word.{word}
use Rattle.base.specs.Decimals.{is_digit, are_digits, is_decimal, number_of}
use Rattle.base.proofs.DecimalLemmas.{digit_range, chosen, number_of-decimal, decimal_digits, decimal_without}
use Rattle.witness.specs.declared.why.Why.{Why}
use Rattle.witness.specs.declared.why.Why.TheVariants as why
use Rattle.witness.specs.Texts.{Shape, Assignment, binary, symbol_part, assignment_line, IsAssignment, most_lines}
use Rattle.witness.specs.Readings.{Reading, so_far, with_said, next_line, lines_behind}
use Rattle.witness.specs.Admits.{cut_at_space, is_value_byte, value_of, with_symbol, with_value, assignment_at, begins_part, Read, admit, word_reader}
use Rattle.btor2.specs.Symbols.{is_symbol}
use Rattle.witness.proofs.PieceLemmas.{cut_at_space-parts, value_is_binary}
use Rattle.witness.proofs.AssignmentLemmas.{stands_in, IsPlain, assignment_at-assignment_line, assignment_line_is_plain}
use Rattle.witness.proofs.ReadingLemmas.{stopped, stays}
use Rattle.rejoin.specs.Pieces.{piece_count, first_piece, pieces_from, split_assignment, split_part}
use Rattle.spread.specs.Passing.{faulty_rest, faulty_line, index_named, assigned_lines}
use Rattle.spread.proofs.WidthLemmas.{pieces, segment, within_pieces, IsPieceOf, HaveBits, lowest_width, has_bits, few_pieces, lowest_piece}
use Rattle.spread.proofs.PieceLemmas.{AreThere, stands_in-part, Stand, pieces_go}

-- ---- lines that begin as no other

begins_none : (b : ℕ) (bs : List ℕ) → begins_part (b ∷ bs) ≡ false → IsPlain (b ∷ bs)
begins_none b bs h =
    let first = or_parts (b == 35) _ h in
    let rest = or_parts (b == 64) (b == 46) first.1 in
    record {
      no_frame = λ others. rw rest.0 refl;
      no_states = λ others. rw first.0 refl;
      no_end = rw rest.1 refl;
      no_part = h;
    }

pub plain_line : (line : List ℕ) → begins_part line ≡ false → IsPlain line
plain_line [] h = record { no_frame = λ others. refl; no_states = λ others. refl; no_end = refl; no_part = refl }
plain_line (b ∷ bs) h = begins_none b bs h

pub digits_begin_none : (digits rest : List ℕ) → are_digits digits ≡ true → 0 < length digits → begins_part (digits ++ rest) ≡ false
digits_begin_none [] rest all some = absurd (omega (arith, some))
digits_begin_none (b ∷ bs) rest all some =
    let range = digit_range b (and_parts (is_digit b) (are_digits bs) all).0 in
    or_from (b == 35) _ (ne_eqb b 35 (λ e. omega (arith, range, e))) (or_from (b == 64) (b == 46) (ne_eqb b 64 (λ e. omega (arith, range, e))) (ne_eqb b 46 (λ e. omega (arith, range, e))))

-- ---- an assignment that may stand there

-- where the index may stand, the assignments with that of a line
abbrev pub named_at : (Option ℕ → Bool) → List ℕ → List Assignment → List ℕ → Result (List Assignment) Why
named_at may widths before line = cond (may (number_of (cut_at_space line).0)) (assignment_at widths before line) (Err why.BadIndex)

-- the same behind an index
abbrev indexed : (Option ℕ → Bool) → List ℕ → List Assignment → ℕ → Option (List ℕ) → Result (List Assignment) Why
indexed may widths before i rest = cond (may (Some i)) (cond (stands_in i before) (Err why.IndexTwice) (with_value widths before i rest)) (Err why.BadIndex)

-- a line that begins with an index
module _ (widths : List ℕ) (i : ℕ) (rest : Option (List ℕ)) (within : i < length widths) (small : length widths < 2 ^ 64) where
  abbrev begun : List ℕ
  begun = decimal i ++ symbol_part rest

  begun_cut : cut_at_space begun ≡ (decimal i, rest)
  begun_cut = cut_at_space-parts (decimal i) rest (decimal_without 32 i (omega arith) (omega (arith, within, small)))

  pub begun_plain : begins_part begun ≡ false
  begun_plain = let lt : i < 2 ^ 64 = omega (arith, within, small) in digits_begin_none (decimal i) (symbol_part rest) (decimal_digits i lt) (decimal_nonempty i lt)

  pub begun_indexed : (may : Option ℕ → Bool) (before : List Assignment) → named_at may widths before begun ≡ indexed may widths before i rest
  unfolding assignment_at
  begun_indexed may before =
      let lt : i < 2 ^ 64 = omega (arith, within, small) in
      let number : number_of (decimal i) ≡ Some i = number_of-decimal i lt in
      rw (begun_cut, number, lt-ltb i (length widths) within) refl

-- the line of an assignment begins with its index
line_number : (widths : List ℕ) (a : Assignment) → IsAssignment widths a → length widths < 2 ^ 64 → number_of (cut_at_space (assignment_line widths a)).0 ≡ Some a.index
line_number widths a is small =
    let within = is.index in
    let rest : List ℕ = binary (slice_index widths a.index) a.word ++ symbol_part a.symbol in
    ap (λ (l : List ℕ). number_of (cut_at_space l).0) (append_assoc (decimal a.index) (32 ∷ binary (slice_index widths a.index) a.word) (symbol_part a.symbol))
    ∙ (ap (λ (c : List ℕ × Option (List ℕ)). number_of c.0) (begun_cut widths a.index (Some rest) within small) ∙ number_of-decimal a.index (omega (arith, within, small)))

-- ---- a line of a part

-- it has no index of a word, whatever stands before it
abbrev pub HasNoIndex : List ℕ → List ℕ → Type 0
HasNoIndex widths line = (before : List Assignment) → assignment_at widths before line ≡ Err why.BadIndex

-- it has one, and this behind it
pub record HasIndex (widths line : List ℕ) : Type 0 where
  pub index : ℕ
  pub rest : Option (List ℕ)
  pub within : index < length widths
  pub named : index_named line ≡ index
  pub alone : assignment_at widths [] line ≡ with_value widths [] index rest
  pub gives : (may : Option ℕ → Bool) (before : List Assignment) → named_at may widths before line ≡ indexed may widths before index rest

pub line_index : (widths line : List ℕ) → HasNoIndex widths line ⊎ HasIndex widths line
unfolding assignment_at
line_index widths line = by (number_of (cut_at_space line).0) refl
  where
    by : (o : Option ℕ) → number_of (cut_at_space line).0 ≡ o → HasNoIndex widths line ⊎ HasIndex widths line
    by None e = inl (λ before. rw e refl)
    by (Some i) e =
        elim (cases_lt i (length widths)) [
          | inl less ↦
              inr (record {
                index = i;
                rest = (cut_at_space line).1;
                within = less;
                named = rw e refl;
                alone = rw (e, lt-ltb i (length widths) less) refl;
                gives = λ may before. rw (e, lt-ltb i (length widths) less) refl;
              })
          | inr above ↦ inl (λ before. rw (e, le-ltb i (length widths) above) refl)
        ]

-- what stands behind the index is read alike behind any assignments
symbol_behind : (before : List Assignment) (i : ℕ) (name : Option (List ℕ)) (value : Result ℕ Why) → with_symbol before i name value ≡ with_said (λ (list : List Assignment). before ++ list) (with_symbol [] i name value)
symbol_behind before i name (Err w) = refl
symbol_behind before i None (Ok x) = refl
symbol_behind before i (Some bytes) (Ok x) =
    elim (is_symbol bytes) as (λ b. cond b (Ok (before ++ record { index = i; word = x; symbol = Some bytes } ∷ [])) (Err why.BadSymbol)
    ≡ with_said (λ (list : List Assignment). before ++ list) (cond b (Ok (record { index = i; word = x; symbol = Some bytes } ∷ [])) (Err why.BadSymbol))) [ true ↦ refl | false ↦ refl ]

pub value_behind : (widths : List ℕ) (before : List Assignment) (i : ℕ) (rest : Option (List ℕ)) → with_value widths before i rest ≡ with_said (λ (list : List Assignment). before ++ list) (with_value widths [] i rest)
value_behind widths before i None = refl
value_behind widths before i (Some text) = symbol_behind before i (cut_at_space text).1 (value_of (slice_index widths i) (cut_at_space text).0)

-- where it is a value, that is one assignment
pub record Gives (widths : List ℕ) (i : ℕ) (list : List Assignment) : Type 0 where
  pub one : Assignment
  pub is : list ≡ one ∷ []
  pub index : one.index ≡ i
  pub valid : IsAssignment widths one

pub value_gives : (widths : List ℕ) (i : ℕ) (rest : Option (List ℕ)) (list : List Assignment) → i < length widths → with_value widths [] i rest ≡ Ok list → Gives widths i list
value_gives widths i None list within h = absurd cc
value_gives widths i (Some text) list within h = by (cut_at_space text).1 (value_of (slice_index widths i) (cut_at_space text).0) refl h
  where
    by : (name : Option (List ℕ)) (value : Result ℕ Why) → value_of (slice_index widths i) (cut_at_space text).0 ≡ value → with_symbol [] i name value ≡ Ok list → Gives widths i list
    by name (Err w) is h = absurd cc
    by None (Ok x) is h = record { one = record { index = i; word = x; symbol = None }; is = cc; index = refl; valid = record { index = within; word = (value_is_binary (slice_index widths i) (cut_at_space text).0 x is).fits; symbol = tt } }
    by (Some bytes) (Ok x) is h =
        elim (chosen (is_symbol bytes) (Ok (record { index = i; word = x; symbol = Some bytes } ∷ [])) (Err why.BadSymbol) (Ok list) h) [
          | inl e ↦ record { one = record { index = i; word = x; symbol = Some bytes }; is = cc (e.1); index = refl; valid = record { index = within; word = (value_is_binary (slice_index widths i) (cut_at_space text).0 x is).fits; symbol = e.0 } }
          | inr e ↦ absurd (cc (e.1))
        ]

-- ---- a line that is faulty for the same why

all_same : (p : ℕ → Bool) (b n : ℕ) → p b ≡ true → list_all p (replicate n b) ≡ true
all_same p b zero h = refl
all_same p b (suc n) h = and_from (p b) _ h (all_same p b n h)

pub none_same : (p : ℕ → Bool) (b n : ℕ) → p b ≡ false → list_any p (replicate n b) ≡ false
none_same p b zero h = refl
none_same p b (suc n) h = or_from (p b) _ h (none_same p b n h)

some_same : (p : ℕ → Bool) (b n : ℕ) → p b ≡ true → 0 < n → list_any p (replicate n b) ≡ true
some_same p b zero h some = absurd (omega (arith, some))
some_same p b (suc n) h some = rw h refl

undetermined : (n : ℕ) → 0 < n → value_of n (replicate n 120) ≡ Err why.Undetermined
unfolding value_of
undetermined n some =
    let bytes : List ℕ = replicate n 120 in
    let whole : ((length bytes == n) && list_all is_value_byte bytes) ≡ true = and_from _ _ (eq-eqb (length bytes) n (length-replicate n 120)) (all_same is_value_byte 120 n refl) in
    rw (whole, some_same (λ b. b == 120) 120 n refl some) refl

-- zeros are a value
is_value : (n : ℕ) → (x : ℕ) × (value_of n (replicate n 48) ≡ Ok x)
unfolding value_of
is_value n =
    let bytes : List ℕ = replicate n 48 in
    let whole : ((length bytes == n) && list_all is_value_byte bytes) ≡ true = and_from _ _ (eq-eqb (length bytes) n (length-replicate n 48)) (all_same is_value_byte 48 n refl) in
    (word (reverse (map (λ b. b == 49) bytes)), rw (whole, none_same (λ b. b == 120) 48 n refl) refl)

-- what is refused behind an index is refused so behind another
pub record IsFaulty (widths : List ℕ) (i : ℕ) (w : Why) : Type 0 where
  pub line : faulty_line widths i w ≡ decimal (first_piece widths i) ++ symbol_part (faulty_rest (min (slice_index widths i) 64) w)
  pub gives : (all : List ℕ) (before : List Assignment) (f : ℕ) → 0 < slice_index all f → with_value all before f (faulty_rest (slice_index all f) w) ≡ Err w

bad_value : (widths : List ℕ) (i : ℕ) → IsFaulty widths i why.BadValue
bad_value widths i = record { line = refl; gives = λ all before f some. refl }

bad_bits : (widths : List ℕ) (i : ℕ) → IsFaulty widths i why.Undetermined
bad_bits widths i =
    record {
      line = refl;
      gives = λ all before f some.
          let n : ℕ = slice_index all f in
          let cut : cut_at_space (replicate n 120) ≡ (replicate n 120, None) = ap cut_at_space (sym (append-nil (replicate n 120))) ∙ cut_at_space-parts (replicate n 120) None (none_same (λ b. b == 32) 120 n refl) in
          ap (λ (c : List ℕ × Option (List ℕ)). with_symbol before f c.1 (value_of n c.0)) cut ∙ ap (with_symbol before f None) (undetermined n some);
    }

bad_symbol : (widths : List ℕ) (i : ℕ) → IsFaulty widths i why.BadSymbol
bad_symbol widths i =
    record {
      line = refl;
      gives = λ all before f some.
          let n : ℕ = slice_index all f in
          let zeros = is_value n in
          ap (λ (c : List ℕ × Option (List ℕ)). with_symbol before f c.1 (value_of n c.0)) (cut_at_space-parts (replicate n 48) (Some []) (none_same (λ b. b == 32) 48 n refl)) ∙ ap (with_symbol before f (Some [])) zeros.1;
    }

-- the whys behind an index
value_whys : (n : ℕ) (bytes : List ℕ) (w : Why) → value_of n bytes ≡ Err w → (w ≡ why.BadValue) ⊎ (w ≡ why.Undetermined)
unfolding value_of
value_whys n bytes w h =
    elim (chosen ((length bytes == n) && list_all is_value_byte bytes) _ (Err why.BadValue) (Err w) h) [
      | inl e ↦
          elim (chosen (list_any (λ b. b == 120) bytes) (Err why.Undetermined) _ (Err w) e.1) [
            | inl d ↦ inr (cc (d.1))
            | inr d ↦ absurd (cc (d.1))
          ]
      | inr e ↦ inl (cc (e.1))
    ]

pub is_faulty : (widths : List ℕ) (i : ℕ) (rest : Option (List ℕ)) (w : Why) → with_value widths [] i rest ≡ Err w → IsFaulty widths i w
is_faulty widths i None w h =
    let is : why.BadValue ≡ w = cc in
    subst (IsFaulty widths i) is (bad_value widths i)
is_faulty widths i (Some text) w h = by (cut_at_space text).1 (value_of (slice_index widths i) (cut_at_space text).0) refl h
  where
    by : (name : Option (List ℕ)) (value : Result ℕ Why) → value_of (slice_index widths i) (cut_at_space text).0 ≡ value → with_symbol [] i name value ≡ Err w → IsFaulty widths i w
    by name (Err v) is h =
        let same : v ≡ w = cc in
        elim (value_whys (slice_index widths i) (cut_at_space text).0 v is) [
          | inl e ↦ subst (IsFaulty widths i) (sym e ∙ same) (bad_value widths i)
          | inr e ↦ subst (IsFaulty widths i) (sym e ∙ same) (bad_bits widths i)
        ]
    by None (Ok x) is h = absurd cc
    by (Some bytes) (Ok x) is h =
        elim (chosen (is_symbol bytes) (Ok (record { index = i; word = x; symbol = Some bytes } ∷ [])) (Err why.BadSymbol) (Err w) h) [
          | inl e ↦ absurd (cc (e.1))
          | inr e ↦
              let same : why.BadSymbol ≡ w = cc (e.1) in
              subst (IsFaulty widths i) same (bad_symbol widths i)
        ]

-- ---- the lines that go on

-- a part of the fitted model, at places that go by what was read of it: a line that begins as no other is one of an assignment
module _ (widths : List ℕ) (have : HaveBits widths) (small : length (pieces widths) < 2 ^ 64) (may may' : Option ℕ → Bool)
    (same : (i j : ℕ) → i < length widths → IsPieceOf widths i j → may' (Some j) ≡ may (Some i)) (shape : Shape) (at : List Assignment → Read)
    (says : (before : List Assignment) (line : List ℕ) → begins_part line ≡ false → admit shape (at before) line ≡ with_said at (named_at may' (pieces widths) before line)) where
  abbrev all : List ℕ
  all = pieces widths

  -- what is read behind these lines is what the line gives
  abbrev pub Goes : ℕ → List Assignment → List (List ℕ) → Result (List Assignment) Why → Type 0
  Goes k before lines (Ok list) =
      (c : ℕ) × ((0 < c) × ((c ≤ 16384) × (lines_behind (word_reader shape) (so_far k (at (split_part widths before))) lines ≡ so_far (k + c) (at (split_part widths list)))))
  Goes k before lines (Err w) = lines_behind (word_reader shape) (so_far k (at (split_part widths before))) lines ≡ stopped k (at (split_part widths before)) w

  module _ (k : ℕ) (before : List Assignment) (room : k + 16384 ≤ most_lines) (there : AreThere widths before) where
    abbrev split : List Assignment
    split = split_part widths before

    -- the first of them is refused
    first_refused : (line : List ℕ) (others : List (List ℕ)) (w : Why) → begins_part line ≡ false → named_at may' all split line ≡ Err w
        → lines_behind (word_reader shape) (so_far k (at split)) (line ∷ others) ≡ stopped k (at split) w
    unfolding next_line
    first_refused line others w plain h =
        let refuses : admit shape (at split) line ≡ Err w = says split line plain ∙ ap (with_said at) h in
        let here : next_line (word_reader shape) (so_far k (at split)) line ≡ stopped k (at split) w = rw (lt-leb most_lines k (omega (arith, room)), refuses) refl in
        ap (λ (g : Reading Read). lines_behind (word_reader shape) g others) here ∙ stays (word_reader shape) k (at split) w others

    -- the line has no index
    none_goes : (line : List ℕ) → HasNoIndex widths line → Goes k before (assigned_lines widths line (assignment_at widths [] line)) (named_at may widths before line)
    unfolding assignment_at number_of is_decimal
    none_goes line none =
        let wide : named_at may widths before line ≡ Err why.BadIndex = elim (may (number_of (cut_at_space line).0)) as (λ b. cond b (assignment_at widths before line) (Err why.BadIndex) ≡ Err why.BadIndex) [ true ↦ none before | false ↦ refl ] in
        let narrow : named_at may' all split [] ≡ Err why.BadIndex = elim (may' None) as (λ b. cond {A = Result (List Assignment) Why} b (Err why.BadIndex) (Err why.BadIndex) ≡ Err why.BadIndex) [ true ↦ refl | false ↦ refl ] in
        subst (λ (o : Result (List Assignment) Why). Goes k before (assigned_lines widths line (assignment_at widths [] line)) o) (sym wide)
        (subst (λ (o : Result (List Assignment) Why). Goes k before (assigned_lines widths line o) (Err why.BadIndex)) (sym (none [])) (first_refused [] [] why.BadIndex refl narrow))

    module _ (i : ℕ) (rest : Option (List ℕ)) (within : i < length widths) where
      abbrev first : ℕ
      first = first_piece widths i

      first_within : first < length all
      first_within = let few = few_pieces widths i within have in omega (arith, few.0, within_pieces widths i within)

      -- the first line is of the lowest piece, and refused
      begun_refused : (tail : Option (List ℕ)) (others : List (List ℕ)) (m s : Bool) (w : Why) → may (Some i) ≡ m → stands_in i before ≡ s
          → cond m (cond s (Err why.IndexTwice) (with_value all split first tail)) (Err why.BadIndex) ≡ Err w
          → lines_behind (word_reader shape) (so_far k (at split)) (begun all first tail first_within small ∷ others) ≡ stopped k (at split) w
      begun_refused tail others m s w em es h =
          let is = lowest_piece widths i within have in
          first_refused (begun all first tail first_within small) others w (begun_plain all first tail first_within small)
          (begun_indexed all first tail first_within small may' split ∙ rw (same i first within is, em, stands_in-part widths before i first there within is, es) h)

      -- it says no value
      faulty_goes : (w : Why) → with_value widths [] i rest ≡ Err w → Goes k before (faulty_line widths i w ∷ []) (indexed may widths before i rest)
      faulty_goes w h =
          let is = is_faulty widths i rest w h in
          let n : ℕ = slice_index all first in
          let width : n ≡ min (slice_index widths i) 64 = lowest_width widths i within have in
          let some : 0 < n = omega (arith, width, (has_bits widths i within have).0) in
          let tail : Option (List ℕ) = faulty_rest n w in
          let spelled : faulty_line widths i w ≡ begun all first tail first_within small = is.line ∙ ap (λ (m : ℕ). decimal first ++ symbol_part (faulty_rest m w)) (sym width) in
          let wide : with_value widths before i rest ≡ Err w = value_behind widths before i rest ∙ ap (with_said (λ (list : List Assignment). before ++ list)) h in
          subst (λ (l : List ℕ). Goes k before (l ∷ []) (indexed may widths before i rest)) (sym spelled)
          (subst (λ (o : Result (List Assignment) Why). Goes k before (begun all first tail first_within small ∷ []) (cond (may (Some i)) (cond (stands_in i before) (Err why.IndexTwice) o) (Err why.BadIndex))) (sym wide)
          (by tail (is.gives all split first some) (may (Some i)) (stands_in i before) refl refl))
        where
          by : (tail : Option (List ℕ)) → with_value all split first tail ≡ Err w → (m s : Bool) → may (Some i) ≡ m → stands_in i before ≡ s
              → Goes k before (begun all first tail first_within small ∷ []) (cond m (cond s (Err why.IndexTwice) (Err w)) (Err why.BadIndex))
          by tail gives false s em es = begun_refused tail [] false s why.BadIndex em es refl
          by tail gives true true em es = begun_refused tail [] true true why.IndexTwice em es refl
          by tail gives true false em es = begun_refused tail [] true false w em es gives

      -- it says a word
      word_goes : (a : Assignment) → a.index ≡ i → IsAssignment widths a → with_value widths [] i rest ≡ Ok (a ∷ []) → Goes k before (map (assignment_line all) (split_part widths (a ∷ []))) (indexed may widths before i rest)
      word_goes a at_i valid h =
          let wide : with_value widths before i rest ≡ Ok (before ++ a ∷ []) = value_behind widths before i rest ∙ ap (with_said (λ (list : List Assignment). before ++ list)) h in
          let own : split_part widths (a ∷ []) ≡ pieces_from first count a.word =
          append-nil (split_assignment widths a) ∙ ap (λ (j : ℕ). pieces_from (first_piece widths j) (piece_count (slice_index widths j)) a.word) at_i in
          subst (λ (l : List Assignment). Goes k before (map (assignment_line all) l) (indexed may widths before i rest)) (sym own)
          (subst (λ (o : Result (List Assignment) Why). Goes k before (map (assignment_line all) (pieces_from first count a.word)) (cond (may (Some i)) (cond (stands_in i before) (Err why.IndexTwice) o) (Err why.BadIndex))) (sym wide)
          (by (may (Some i)) (stands_in i before) refl refl))
        where
          count : ℕ
          count = piece_count (slice_index widths i)

          -- the first line
          refused : (c : ℕ) → 0 < c → (m s : Bool) (w : Why) → may (Some i) ≡ m → stands_in i before ≡ s → ((tail : Option (List ℕ)) → cond m (cond s (Err why.IndexTwice) (with_value all split first tail)) (Err why.BadIndex) ≡ Err w)
              → lines_behind (word_reader shape) (so_far k (at split)) (map (assignment_line all) (pieces_from first c a.word)) ≡ stopped k (at split) w
          refused zero some m s w em es h = absurd (omega (arith, some))
          refused (suc c) some m s w em es h =
              let digits : List ℕ = binary (slice_index all first) (a.word % 2 ^ 64) in
              let others : List (List ℕ) = map (assignment_line all) (pieces_from (suc first) c (a.word / 2 ^ 64)) in
              ap (λ (l : List ℕ). lines_behind (word_reader shape) (so_far k (at split)) (l ∷ others)) (append-nil (decimal first ++ 32 ∷ digits))
              ∙ begun_refused (Some digits) others m s w em es (h (Some digits))

          joined : split_part widths (before ++ a ∷ []) ≡ split ++ pieces_from first count a.word
          joined =
              flat_map-append (split_assignment widths) before (a ∷ [])
              ∙ ap (λ (l : List Assignment). split ++ l) (append-nil (split_assignment widths a) ∙ ap (λ (j : ℕ). pieces_from (first_piece widths j) (piece_count (slice_index widths j)) a.word) at_i)

          step : (others : List Assignment) (b : Assignment) → IsAssignment all b → may' (Some b.index) ≡ true → stands_in b.index others ≡ false → admit shape (at others) (assignment_line all b) ≡ Ok (at (others ++ b ∷ []))
          step others b is may_b new =
              let line : List ℕ = assignment_line all b in
              let read : named_at may' all others line ≡ Ok (others ++ b ∷ []) = rw (line_number all b is small, may_b) (assignment_at-assignment_line all others b small is new) in
              says others line (assignment_line_is_plain all b small is).no_part ∙ ap (with_said at) read

          by : (m s : Bool) → may (Some i) ≡ m → stands_in i before ≡ s
              → Goes k before (map (assignment_line all) (pieces_from first count a.word)) (cond m (cond s (Err why.IndexTwice) (Ok (before ++ a ∷ []))) (Err why.BadIndex))
          by false s em es = refused count (few_pieces widths i within have).0 false s why.BadIndex em es (λ tail. refl)
          by true true em es = refused count (few_pieces widths i within have).0 true true why.IndexTwice em es (λ tail. refl)
          by true false em es =
              let few = few_pieces widths i within have in
              let s = segment widths i within in
              let stand : Stand all first count (slice_index widths i) a.word =
              record { front = s.front; back = s.back; split = s.split; count = s.count; fits = subst (λ (j : ℕ). a.word < 2 ^ slice_index widths j) at_i valid.word } in (
                count,
                (
                  few.0,
                  (
                    few.1,
                    pieces_go shape all at (λ j. may' (Some j) ≡ true) step k first count (slice_index widths i) a.word split (omega (arith, room, few.1)) stand
                        (λ j least most.
                        let is : IsPieceOf widths i j = record { least = least; most = most } in
                        (same i j within is ∙ em, stands_in-part widths before i j there within is ∙ es))
                        ∙ ap (λ (l : List Assignment). so_far (k + count) (at l)) (sym joined),
                  ),
                ),
              )

    -- so what is read behind the lines that go on for a line is what the line gives
    pub assigned_goes : (line : List ℕ) → Goes k before (assigned_lines widths line (assignment_at widths [] line)) (named_at may widths before line)
    assigned_goes line =
        elim (line_index widths line) [
          | inl none ↦ none_goes line none
          | inr has ↦
              subst (λ (o : Result (List Assignment) Why). Goes k before (assigned_lines widths line (assignment_at widths [] line)) o) (sym (has.gives may before))
              (subst (λ (o : Result (List Assignment) Why). Goes k before (assigned_lines widths line o) (indexed may widths before has.index has.rest)) (sym has.alone)
              (by has.index has.rest has.within has.named (with_value widths [] has.index has.rest) refl))
        ]
      where
        by : (i : ℕ) (rest : Option (List ℕ)) → i < length widths → index_named line ≡ i → (o : Result (List Assignment) Why) → with_value widths [] i rest ≡ o → Goes k before (assigned_lines widths line o) (indexed may widths before i rest)
        by i rest within named (Err w) h = subst (λ (j : ℕ). Goes k before (faulty_line widths j w ∷ []) (indexed may widths before i rest)) (sym named) (faulty_goes i rest within w h)
        by i rest within named (Ok list) h =
            let gives = value_gives widths i rest list within h in
            subst (λ (l : List Assignment). Goes k before (map (assignment_line all) (split_part widths l)) (indexed may widths before i rest)) (sym gives.is)
            (word_goes i rest within gives.one gives.index gives.valid (h ∙ ap (λ (l : List Assignment). Ok l) gives.is))
