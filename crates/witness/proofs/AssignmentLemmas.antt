-- Assignments: each has one line, and the line is read as the assignment.
use Rattle.std.proofs.Common.{◌≡◌, ℕ, ◌<◌, ◌^◌, ◌==◌, nat_lt, nat_le, Bool, true, false, List, [], ◌∷◌, ◌++◌, Option, Some, None, Result, Ok, Err, IfSome, length, slice_index, decimal, codes, if◌then◌else◌, inl, inr, append_assoc, refl, sym, ap, ap₂, subst, ◌∙◌, arith}
use Rattle.std.specs.List.{list_any}
use Rattle.std.specs.Str.{bytes_eq}
use Rattle.std.proofs.lemmas.Bool.{or_from, and_parts, ltb-true, lt-ltb, ne_eqb, leb-true}
use Rattle.std.proofs.lemmas.List.Folds.{list_any-append}
use Rattle.std.proofs.lemmas.Fmt.{decimal_nonempty}
use Rattle.base.specs.Decimals.{is_digit, are_digits, number_of}
use Rattle.base.specs.Lines.{IsLine}
use Rattle.base.proofs.DecimalLemmas.{digit_range, chosen, number_is_decimal, number_of-decimal, decimal_digits, decimal_without, digits_without, none_of}
use Rattle.btor2.specs.Symbols.{is_printed, is_symbol}
use Rattle.btor2.proofs.SymbolLemmas.{symbol_printed}
use Rattle.witness.specs.declared.why.Why.{Why}
use Rattle.witness.specs.declared.why.Why.TheVariants as why
use Rattle.witness.specs.Texts.{Shape, Assignment, binary, symbol_part, assignment_line, claim, claims_line, IsAssignment}
use Rattle.witness.specs.Admits.{cut_at_space, value_of, with_symbol, with_value, with_index, assignment_at, may_name, state_assignment_at, begins_part}
use Rattle.witness.proofs.PieceLemmas.{binary_digits, cut_at_space-parts, parts_of_cut, value_of-binary, IsBinary, value_is_binary}
use Rattle.witness.proofs.ClaimLemmas.{AreBelow}

-- the test that an index stands among some assignments
abbrev pub stands_in : ℕ → List Assignment → Bool
stands_in i before = list_any (λ a. a.index == i) before

-- a line with its parts from left to right
parts_of_assignment : (widths : List ℕ) (a : Assignment) → assignment_line widths a ≡ decimal a.index ++ symbol_part (Some (binary (slice_index widths a.index) a.word ++ symbol_part a.symbol))
parts_of_assignment widths a = append_assoc (decimal a.index) (32 ∷ binary (slice_index widths a.index) a.word) (symbol_part a.symbol)

-- a line that is cut at its first space
cut_of_line : (widths : List ℕ) (a : Assignment) → length widths < 2 ^ 64 → IsAssignment widths a → cut_at_space (assignment_line widths a) ≡ (decimal a.index, Some (binary (slice_index widths a.index) a.word ++ symbol_part a.symbol))
cut_of_line widths a small is =
    let within = is.index in
    ap cut_at_space (parts_of_assignment widths a) ∙ cut_at_space-parts (decimal a.index) (Some (binary (slice_index widths a.index) a.word ++ symbol_part a.symbol)) (decimal_without 32 a.index (omega arith) (omega arith))

-- a symbol, where there is one
abbrev pub IsName : Option (List ℕ) → Type 0
IsName name = IfSome name (λ bytes. is_symbol bytes ≡ true)

name_passes : (before : List Assignment) (i x : ℕ) (name : Option (List ℕ)) → IsName name
    → with_symbol before i name (Ok x) ≡ Ok (before ++ record { index = i; word = x; symbol = name } ∷ [])
name_passes before i x None is = refl
name_passes before i x (Some bytes) is = rw is refl

value_passes : (widths : List ℕ) (before : List Assignment) (i x : ℕ) (name : Option (List ℕ)) → x < 2 ^ slice_index widths i → IsName name
    → with_value widths before i (Some (binary (slice_index widths i) x ++ symbol_part name)) ≡ Ok (before ++ record { index = i; word = x; symbol = name } ∷ [])
value_passes widths before i x name fits is =
    let width : ℕ = slice_index widths i in
    let cut : cut_at_space (binary width x ++ symbol_part name) ≡ (binary width x, name) = cut_at_space-parts (binary width x) name (digits_without 32 (binary width x) (omega arith) (binary_digits width x)) in
    ap (λ (c : List ℕ × Option (List ℕ)). with_symbol before i c.1 (value_of width c.0)) cut
    ∙ (ap (with_symbol before i name) (value_of-binary width x fits) ∙ name_passes before i x name is)

-- the line of an assignment is read behind those that do not have its index
pub assignment_at-assignment_line : (widths : List ℕ) (before : List Assignment) (a : Assignment) → length widths < 2 ^ 64 → IsAssignment widths a
    → stands_in a.index before ≡ false → assignment_at widths before (assignment_line widths a) ≡ Ok (before ++ a ∷ [])
unfolding assignment_at
assignment_at-assignment_line widths before a small is new =
    let within = is.index in
    let lt : a.index < 2 ^ 64 = omega arith in
    let value : List ℕ = binary (slice_index widths a.index) a.word ++ symbol_part a.symbol in
    ap (λ (c : List ℕ × Option (List ℕ)). with_index widths before c.1 (number_of c.0)) (cut_of_line widths a small is)
    ∙ (ap (with_index widths before (Some value)) (number_of-decimal a.index lt)
    ∙ rw (lt-ltb a.index (length widths) within, new) (value_passes widths before a.index a.word a.symbol is.word is.symbol))

-- it begins with its index
index_of_line : (widths : List ℕ) (a : Assignment) → length widths < 2 ^ 64 → IsAssignment widths a → number_of (cut_at_space (assignment_line widths a)).0 ≡ Some a.index
index_of_line widths a small is =
    let within = is.index in
    ap (λ (c : List ℕ × Option (List ℕ)). number_of c.0) (cut_of_line widths a small is) ∙ number_of-decimal a.index (omega arith)

-- the same in a part of states
pub state_assignment_at-assignment_line : {A : Type 0} (shape : Shape) (closed : List A) (before : List Assignment) (a : Assignment) → length shape.states < 2 ^ 64 → IsAssignment shape.states a → may_name shape closed (Some a.index) ≡ true
    → stands_in a.index before ≡ false → state_assignment_at shape closed before (assignment_line shape.states a) ≡ Ok (before ++ a ∷ [])
unfolding state_assignment_at
state_assignment_at-assignment_line shape closed before a small is may new =
    rw (index_of_line shape.states a small is, may) (assignment_at-assignment_line shape.states before a small is new)

-- where its line may stand there, its index may
pub may_stand : {A : Type 0} (shape : Shape) (closed : List A) (line : List ℕ) (a : Assignment) → length shape.states < 2 ^ 64 → line ≡ assignment_line shape.states a → IsAssignment shape.states a
    → may_name shape closed (number_of (cut_at_space line).0) ≡ true → may_name shape closed (Some a.index) ≡ true
may_stand shape closed line a small spelled is may =
    ap (may_name shape closed) (sym (ap (λ (bytes : List ℕ). number_of (cut_at_space bytes).0) spelled ∙ index_of_line shape.states a small is)) ∙ may

-- ---- a line that is read as an assignment

index_parts : (widths : List ℕ) (before : List Assignment) (rest : Option (List ℕ)) (o : Option ℕ) (list : List Assignment) → with_index widths before rest o ≡ Ok list
    → (i : ℕ) × ((o ≡ Some i) × (i < length widths) × (stands_in i before ≡ false) × (with_value widths before i rest ≡ Ok list))
index_parts widths before rest None list h = absurd cc
index_parts widths before rest (Some i) list h =
    let inner : Result (List Assignment) Why = if stands_in i before then Err why.IndexTwice else with_value widths before i rest in
    elim (chosen (nat_lt i (length widths)) inner (Err why.BadIndex) (Ok list) h) [
      | inl e ↦
          elim (chosen (stands_in i before) (Err why.IndexTwice) (with_value widths before i rest) (Ok list) e.1) [
            | inl d ↦ absurd (cc (d.1))
            | inr d ↦ (i, (refl, ltb-true i (length widths) e.0, d.0, d.1))
          ]
      | inr e ↦ absurd (cc (e.1))
    ]

value_parts : (widths : List ℕ) (before : List Assignment) (i : ℕ) (rest : Option (List ℕ)) (list : List Assignment) → with_value widths before i rest ≡ Ok list
    → (text : List ℕ) × ((rest ≡ Some text) × (with_symbol before i (cut_at_space text).1 (value_of (slice_index widths i) (cut_at_space text).0) ≡ Ok list))
value_parts widths before i None list h = absurd cc
value_parts widths before i (Some text) list h = (text, (refl, h))

symbol_parts : (before : List Assignment) (i : ℕ) (name : Option (List ℕ)) (value : Result ℕ Why) (list : List Assignment) → with_symbol before i name value ≡ Ok list
    → (x : ℕ) × ((value ≡ Ok x) × IsName name × (list ≡ before ++ record { index = i; word = x; symbol = name } ∷ []))
symbol_parts before i name (Err w) list h = absurd cc
symbol_parts before i None (Ok x) list h = (x, (refl, tt, cc))
symbol_parts before i (Some bytes) (Ok x) list h =
    elim (chosen (is_symbol bytes) (Ok (before ++ record { index = i; word = x; symbol = Some bytes } ∷ [])) (Err why.BadSymbol) (Ok list) h) [
      | inl e ↦ (x, (refl, e.0, cc (e.1)))
      | inr e ↦ absurd (cc (e.1))
    ]

-- a line that says an assignment, behind those of its part
pub record IsAssigned (widths : List ℕ) (before : List Assignment) (line : List ℕ) (list : List Assignment) : Type 0 where
  pub assignment : Assignment
  pub spelled : line ≡ assignment_line widths assignment
  pub valid : IsAssignment widths assignment
  pub new : stands_in assignment.index before ≡ false
  pub all : list ≡ before ++ assignment ∷ []

-- a line that is read as an assignment is its line
pub assignment_is_line : (widths : List ℕ) (before : List Assignment) (line : List ℕ) (list : List Assignment) → length widths < 2 ^ 64 → assignment_at widths before line ≡ Ok list → IsAssigned widths before line list
unfolding assignment_at
assignment_is_line widths before line list small h =
    let cut = cut_at_space line in
    let index = index_parts widths before cut.1 (number_of cut.0) list h in
    let i : ℕ = index.0 in
    let width : ℕ = slice_index widths i in
    let within : i < length widths = index.1.1 in
    let value = value_parts widths before i cut.1 list index.1.3 in
    let text : List ℕ = value.0 in
    let inner = cut_at_space text in
    let symbol = symbol_parts before i inner.1 (value_of width inner.0) list value.1.1 in
    let x : ℕ = symbol.0 in
    let digits : IsBinary width inner.0 x = value_is_binary width inner.0 x symbol.1.0 in
    let front : cut.0 ≡ decimal i = number_is_decimal cut.0 i index.1.0 (omega arith) in
    let behind : text ≡ binary width x ++ symbol_part inner.1 = sym (parts_of_cut text) ∙ ap (λ (t : List ℕ). t ++ symbol_part inner.1) digits.spelled in
    let whole : line ≡ cut.0 ++ symbol_part (Some text) = sym (parts_of_cut line) ∙ ap (λ (o : Option (List ℕ)). cut.0 ++ symbol_part o) value.1.0 in
    record {
      assignment = record { index = i; word = x; symbol = inner.1 };
      spelled = whole ∙ (ap₂ (λ (t u : List ℕ). t ++ 32 ∷ u) front behind ∙ sym (parts_of_assignment widths (record { index = i; word = x; symbol = inner.1 })));
      valid = record { index = within; word = digits.fits; symbol = symbol.1.1 };
      new = index.1.2;
      all = symbol.1.2;
    }

-- the same in a part of states
pub state_assignment_is_line : {A : Type 0} (shape : Shape) (closed : List A) (before : List Assignment) (line : List ℕ) (list : List Assignment) → length shape.states < 2 ^ 64 → state_assignment_at shape closed before line ≡ Ok list
    → (is : IsAssigned shape.states before line list) × (may_name shape closed (Some is.assignment.index) ≡ true)
unfolding state_assignment_at
state_assignment_is_line shape closed before line list small h =
    elim (chosen (may_name shape closed (number_of (cut_at_space line).0)) (assignment_at shape.states before line) (Err why.BadIndex) (Ok list) h) [
      | inl e ↦ let is = assignment_is_line shape.states before line list small e.1 in (is, may_stand shape closed line is.assignment small is.spelled is.valid e.0)
      | inr e ↦ absurd (cc (e.1))
    ]

-- ---- the bytes of the lines

-- bytes in front and behind, none of which is x
without : (x : ℕ) (front back : List ℕ) → list_any (λ b. b == x) front ≡ false → list_any (λ b. b == x) back ≡ false → list_any (λ b. b == x) (front ++ back) ≡ false
without x front back f b = list_any-append (λ c. c == x) front back ∙ or_from (list_any (λ c. c == x) front) (list_any (λ c. c == x) back) f b

pub name_is_line : (name : Option (List ℕ)) → IsName name → IsLine (symbol_part name)
name_is_line None is = refl
name_is_line (Some name) is = none_of is_printed 10 name (λ c printed. ne_eqb c 10 (λ e. let least = leb-true 33 c (and_parts (nat_le 33 c) (nat_le c 126) printed).0 in omega arith)) (symbol_printed name is)

-- the line of an assignment has no byte 10
pub assignment_line_is_line : (widths : List ℕ) (a : Assignment) → length widths < 2 ^ 64 → IsAssignment widths a → IsLine (assignment_line widths a)
assignment_line_is_line widths a small is =
    let within = is.index in
    let lt : a.index < 2 ^ 64 = omega arith in
    let width : ℕ = slice_index widths a.index in
    let value : list_any (λ b. b == 10) (binary width a.word ++ symbol_part a.symbol) ≡ false = without 10 (binary width a.word) (symbol_part a.symbol) (digits_without 10 (binary width a.word) (omega arith) (binary_digits width a.word)) (name_is_line a.symbol is.symbol) in
    subst IsLine (sym (parts_of_assignment widths a)) (without 10 (decimal a.index) (32 ∷ (binary width a.word ++ symbol_part a.symbol)) (decimal_without 10 a.index (omega arith) lt) value)

-- the line of claims has none
pub claims_line_is_line : (bads : ℕ) (list : List ℕ) → bads < 2 ^ 64 → AreBelow bads list → IsLine (claims_line list)
claims_line_is_line bads [] small below = refl
claims_line_is_line bads (i ∷ []) small below =
    let lt : i < 2 ^ 64 = omega (arith, below.0) in
    decimal_without 10 i (omega arith) lt
claims_line_is_line bads (i ∷ j ∷ more) small below =
    let lt : i < 2 ^ 64 = omega (arith, below.0) in
    without 10 (claim i) (32 ∷ claims_line (j ∷ more)) (decimal_without 10 i (omega arith) lt) (claims_line_is_line bads (j ∷ more) small below.1)

-- a line that begins with a digit opens and ends no part
pub record IsPlain (line : List ℕ) : Type 0 where
  pub no_frame : (rest : List ℕ) → bytes_eq line (64 ∷ rest) ≡ false
  pub no_states : (rest : List ℕ) → bytes_eq line (35 ∷ rest) ≡ false
  pub no_end : bytes_eq line (codes ".") ≡ false
  pub no_part : begins_part line ≡ false

digits_are_plain : (digits rest : List ℕ) → are_digits digits ≡ true → 0 < length digits → IsPlain (digits ++ rest)
digits_are_plain [] rest all some = absurd (omega arith)
digits_are_plain (b ∷ bs) rest all some =
    let range = digit_range b (and_parts (is_digit b) (are_digits bs) all).0 in
    let at : (b == 64) ≡ false = ne_eqb b 64 (λ e. omega arith) in
    let dot : (b == 46) ≡ false = ne_eqb b 46 (λ e. omega arith) in
    let hash : (b == 35) ≡ false = ne_eqb b 35 (λ e. omega arith) in
    record {
      no_frame = λ others. rw at refl;
      no_states = λ others. rw hash refl;
      no_end = rw dot refl;
      no_part = or_from (b == 35) _ hash (or_from (b == 64) (b == 46) at dot);
    }

pub assignment_line_is_plain : (widths : List ℕ) (a : Assignment) → length widths < 2 ^ 64 → IsAssignment widths a → IsPlain (assignment_line widths a)
assignment_line_is_plain widths a small is =
    let within = is.index in
    let lt : a.index < 2 ^ 64 = omega arith in
    subst IsPlain (sym (parts_of_assignment widths a)) (digits_are_plain (decimal a.index) (32 ∷ (binary (slice_index widths a.index) a.word ++ symbol_part a.symbol)) (decimal_digits a.index lt) (decimal_nonempty a.index lt))
