-- The lists of an ascii text are read line by line: a line that defines a variable that is not defined yet is always one more.
use Rattle.std.proofs.Common.{◌≡◌, ℕ, zero, suc, ◌+◌, ◌*◌, ◌%◌, ◌^◌, ◌<◌, ◌≤◌, ◌==◌, ◌&&◌, not, nat_le, true, false, List, [], ◌∷◌, ◌++◌, length-append, decimal, Result, Ok, Err, refl, ap, ◌∙◌, arith}
use Rattle.std.specs.List.{list_any}
use Rattle.std.proofs.lemmas.Bool.{and_parts, or_from, or_parts, le-leb}
use Rattle.std.proofs.lemmas.List.Folds.{list_any-append}
use Rattle.base.specs.Lines.{HasNone, IsLine, onto_first}
use Rattle.base.specs.Decimals.{number_of, capped_value, is_decimal, is_digit, are_digits}
use Rattle.base.specs.Literal.{variable}
use Rattle.base.proofs.DecimalLemmas.{digit_range, decimal_digits, decimal_without, number_of-decimal}
use Rattle.aiger.specs.Limits.{greatest_count}
use Rattle.aiger.specs.declared.circuit.Reset.TheVariants as reset
use Rattle.aigerlists.specs.declared.loose.GateLine.{GateLine}
use Rattle.aigerlists.specs.declared.loose.LatchLine.{LatchLine}
use Rattle.aigerlists.specs.Loose.{Loose, empty_loose, defined_variables, defined_count, is_defined, is_defining, with_input_line, with_latch_line, with_gate_line}
use Rattle.aigertext.specs.declared.fault.Why.{Why}
use Rattle.aigertext.specs.declared.fault.Why.TheVariants as why
use Rattle.aigertext.specs.declared.forms.Form.TheVariants.{Ascii}
use Rattle.aigertext.specs.Counts.{Fits}
use Rattle.aigertext.specs.Reading.{◌>>=◌, stop, fields, line_at, next_fields, properties_at}
use Rattle.aigertext.specs.AsciiReading.{defining, input_of, latch_fields, latch_of_line, gate_fields, gate_of_line, onto_lists, with_properties_of, lists_of_file}
use Rattle.meaning.specs.Pieces.{IsWholeLine}
use Rattle.meaning.proofs.FreeLemmas.{IsFree, free_variable}
use Rattle.meaning.proofs.LineLemmas.{HasLine, IsLow, low_line, line_sound}
use Rattle.meaning.proofs.ReaderLemmas.{AreBytes, both_bytes, ok_same, lines, IsSound, nothing_read, then_sound}
use Rattle.meaning.proofs.SectionLemmas.{number_low, fields_low, properties_sound}
use Rattle.meaning.proofs.HeaderLemmas.{bind_back}

-- ---- fields

-- a field before others
fields_more : (field rest : List ℕ) → HasNone 32 field → fields (field ++ 32 ∷ rest) ≡ field ∷ fields rest
fields_more [] rest none = refl
fields_more (b ∷ bs) rest none =
    let parts = or_parts (b == 32) (list_any (λ c. c == 32) bs) none in
    rw (parts.0, fields_more bs rest parts.1) refl

-- the bytes of a decimal
digit_bytes : (digits : List ℕ) → are_digits digits ≡ true → AreBytes digits
digit_bytes [] all = tt
digit_bytes (b ∷ bs) all =
    let parts = and_parts (is_digit b) (are_digits bs) all in
    let range = digit_range b parts.0 in
    (omega (arith, range), digit_bytes bs parts.1)

-- ---- a line that defines a variable

-- a literal that may define one more
record IsOwn (greatest : ℕ) (l : Loose) (lit : ℕ) : Type 0 where
  small : lit < 2 ^ 64
  test : (nat_le lit greatest && (is_defining lit && not (is_defined l (variable lit)))) ≡ true

own_literal : (variables : ℕ) (l : Loose) → variables ≤ greatest_count → (f : IsFree variables (defined_variables l)) → IsOwn (2 * variables + 1) l (2 * f.variable)
own_literal variables l few f =
    let least = f.least in
    let most = f.most in
    let is : variable (2 * f.variable) ≡ f.variable = omega arith in
    let even : 2 * f.variable % 2 ≡ 0 = omega arith in
    let low : nat_le (2 * f.variable) (2 * variables + 1) ≡ true = le-leb (2 * f.variable) (2 * variables + 1) (omega (arith, most)) in
    let high : nat_le 2 (2 * f.variable) ≡ true = le-leb 2 (2 * f.variable) (omega (arith, least)) in
    let new : is_defined l (variable (2 * f.variable)) ≡ false = ap (is_defined l) is ∙ f.free in
    record { small = omega (arith, most, few); test = rw (low, high, even, new) refl }

own_told : (w : Why) (greatest : ℕ) (l : Loose) (lit : ℕ) → IsOwn greatest l lit → defining w greatest l lit ≡ Ok lit
own_told w greatest l lit own = rw (own.test) refl

module _ (greatest : ℕ) (l : Loose) (lit : ℕ) (own : IsOwn greatest l lit) where
  lit_line : IsLine (decimal lit)
  lit_line = decimal_without 10 lit (omega arith) own.small

  lit_bytes : AreBytes (decimal lit)
  lit_bytes = digit_bytes (decimal lit) (decimal_digits lit own.small)

  behind_line : (rest : List ℕ) → IsLine rest → IsLine (decimal lit ++ rest)
  behind_line rest none = list_any-append (λ b. b == 10) (decimal lit) rest ∙ or_from (list_any (λ b. b == 10) (decimal lit)) (list_any (λ b. b == 10) rest) lit_line none

  first_field : (rest : List ℕ) → fields (decimal lit ++ 32 ∷ rest) ≡ decimal lit ∷ fields rest
  first_field rest = fields_more (decimal lit) rest (decimal_without 32 lit (omega arith) own.small)

  own_input : HasLine (input_of greatest l)
  unfolding input_of
  own_input = record { line = decimal lit; is_line = lit_line; bytes = lit_bytes; value = lit; said = rw (number_of-decimal lit own.small) (own_told why.BadNumber greatest l lit own) }

  zero_within : nat_le 0 greatest ≡ true
  zero_within = le-leb 0 greatest (omega arith)

  own_latch : HasLine (latch_of_line greatest l)
  unfolding latch_fields next_fields number_of capped_value is_decimal
  own_latch =
      let says : latch_fields greatest l (decimal lit ∷ (48 ∷ []) ∷ []) ≡ Ok (record { current = lit; next = 0; reset = reset.Zero }) =
      rw (number_of-decimal lit own.small, own_told why.BadLatch greatest l lit own, zero_within) refl in
      record {
        line = decimal lit ++ 32 ∷ 48 ∷ [];
        is_line = behind_line (32 ∷ 48 ∷ []) refl;
        bytes = both_bytes (decimal lit) (32 ∷ 48 ∷ []) lit_bytes (omega arith, (omega arith, tt));
        value = record { current = lit; next = 0; reset = reset.Zero };
        said = ap (latch_fields greatest l) (first_field (48 ∷ [])) ∙ says;
      }

  own_gate : HasLine (gate_of_line greatest l)
  unfolding gate_fields number_of capped_value is_decimal
  own_gate =
      let says : gate_fields greatest l (decimal lit ∷ (48 ∷ []) ∷ (48 ∷ []) ∷ []) ≡ Ok (record { lhs = lit; rhs0 = 0; rhs1 = 0 }) =
      rw (number_of-decimal lit own.small, own_told why.GateOrder greatest l lit own, zero_within) refl in
      record {
        line = decimal lit ++ 32 ∷ 48 ∷ 32 ∷ 48 ∷ [];
        is_line = behind_line (32 ∷ 48 ∷ 32 ∷ 48 ∷ []) refl;
        bytes = both_bytes (decimal lit) (32 ∷ 48 ∷ 32 ∷ 48 ∷ []) lit_bytes (omega arith, (omega arith, (omega arith, (omega arith, tt))));
        value = record { lhs = lit; rhs0 = 0; rhs1 = 0 };
        said = ap (gate_fields greatest l) (first_field (48 ∷ 32 ∷ 48 ∷ [])) ∙ says;
      }

-- ---- a line that begins with the byte 0 or 1

input_low : (greatest : ℕ) (l : Loose) → IsLow (input_of greatest l)
unfolding input_of
input_low greatest l b small line = (why.BadNumber, rw (number_low b small line) refl)

latch_low : (greatest : ℕ) (l : Loose) → IsLow (latch_of_line greatest l)
unfolding latch_fields
latch_low greatest l b small line = (why.BadLatch, ap (latch_fields greatest l) (fields_low b small line) ∙ by (fields line))
  where
    by : (fs : List (List ℕ)) → latch_fields greatest l (onto_first b fs) ≡ Err why.BadLatch
    by [] = refl
    by (f ∷ fs) = rw (number_low b small f) refl

gate_low : (greatest : ℕ) (l : Loose) → IsLow (gate_of_line greatest l)
unfolding gate_fields
gate_low greatest l b small line = (why.BadNumber, ap (gate_fields greatest l) (fields_low b small line) ∙ by (fields line))
  where
    by : (fs : List (List ℕ)) → gate_fields greatest l (onto_first b fs) ≡ Err why.BadNumber
    by [] = refl
    by (f ∷ []) = refl
    by (f ∷ g ∷ []) = refl
    by (f ∷ g ∷ i ∷ []) = rw (number_low b small f) refl
    by (f ∷ g ∷ i ∷ j ∷ fs) = refl

-- ---- lines in turn

onto_count : {A : Type 0} (says : Loose → List ℕ → Result A Why) (with' : Loose → A → Loose) → ((l : Loose) (x : A) → defined_count (with' l x) ≡ suc (defined_count l))
    → (n : ℕ) (l m : Loose) (text rest : List ℕ) → onto_lists says with' l n text ≡ Ok (m, rest) → defined_count m ≡ defined_count l + n
onto_count says with' grows zero l m text rest e =
    let is : ◌≡◌ {A = Loose × List ℕ} (l, text) (m, rest) = ok_same (l, text) (m, rest) e in
    let same : l ≡ m = ap (λ (p : Loose × List ℕ). p.0) is in
    omega (arith, ap defined_count same)
onto_count {A} says with' grows (suc n) l m text rest e =
    bind_back (line_at (says l) text) (λ (x : A × List ℕ). onto_lists says with' (with' l x.0) n x.1) (m, rest) e
    (λ x one more.
    let others = onto_count says with' grows n (with' l x.0) m x.1 rest more in
    let first = grows l x.0 in
    omega (arith, others, first))

module _ (IsPiece IsPart : List ℕ → Type 0) (line_piece : (bytes : List ℕ) → IsWholeLine bytes → IsPiece bytes) (line_part : (bytes : List ℕ) → IsLine bytes → IsPart bytes) where
  onto_sound : {A : Type 0} (says : Loose → List ℕ → Result A Why) (with' : Loose → A → Loose) (most : ℕ) → ((l : Loose) (x : A) → defined_count (with' l x) ≡ suc (defined_count l)) → ((l : Loose) → defined_count l < most → HasLine (says l)) → ((l : Loose) → IsLow (says l))
      → (n : ℕ) (l : Loose) → defined_count l + n ≤ most → IsSound stop lines IsPiece IsPart (onto_lists says with' l n)
  onto_sound says with' most grows has low zero l few = nothing_read stop lines IsPiece IsPart l
  onto_sound says with' most grows has low (suc n) l few =
      then_sound stop lines IsPiece IsPart (line_at (says l)) (λ x text. onto_lists says with' (with' l x) n text) (line_sound IsPiece IsPart line_piece line_part (says l) (has l (omega (arith, few))) (low_line (says l) (low l)))
      (λ x text rest e. let more = grows l x in onto_sound says with' most grows has low n (with' l x) (omega (arith, few, more)))

  pub lists_sound : (h : _) → Fits Ascii h → h.variables ≤ greatest_count → IsSound stop lines IsPiece IsPart (lists_of_file h)
  unfolding lists_of_file
  lists_sound h fits small =
      let g : ℕ = 2 * h.variables + 1 in
      then_sound stop lines IsPiece IsPart (onto_lists (input_of g) with_input_line empty_loose h.inputs)
      (λ i t. onto_lists (latch_of_line g) with_latch_line i h.latches t >>= (λ l. properties_at h l.1 >>= (λ p. onto_lists (gate_of_line g) with_gate_line (with_properties_of l.0 p.0) h.gates p.1)))
      (onto_sound (input_of g) with_input_line h.variables more_inputs (λ l few. own_input g l _ (own_literal h.variables l small (free_variable h.variables l few))) (input_low g) h.inputs empty_loose (omega (arith, fits)))
      (λ i t0 r0 e0.
      let inputs = onto_count (input_of g) with_input_line more_inputs h.inputs empty_loose i t0 r0 e0 in
      then_sound stop lines IsPiece IsPart (onto_lists (latch_of_line g) with_latch_line i h.latches)
      (λ l t. properties_at h t >>= (λ p. onto_lists (gate_of_line g) with_gate_line (with_properties_of l p.0) h.gates p.1))
      (onto_sound (latch_of_line g) with_latch_line h.variables more_latches (λ l few. own_latch g l _ (own_literal h.variables l small (free_variable h.variables l few))) (latch_low g) h.latches i (omega (arith, fits, inputs)))
      (λ l t1 r1 e1.
      let latches = onto_count (latch_of_line g) with_latch_line more_latches h.latches i l t1 r1 e1 in
      then_sound stop lines IsPiece IsPart (properties_at h) (λ p t. onto_lists (gate_of_line g) with_gate_line (with_properties_of l p) h.gates t) (properties_sound IsPiece IsPart line_piece line_part h)
      (λ p t2 r2 e2. onto_sound (gate_of_line g) with_gate_line h.variables more_gates (λ m few. own_gate g m _ (own_literal h.variables m small (free_variable h.variables m few))) (gate_low g) h.gates (with_properties_of l p) (omega (arith, fits, inputs, latches)))))
    where
      more_inputs : (l : Loose) (x : ℕ) → defined_count (with_input_line l x) ≡ suc (defined_count l)
      more_inputs l x = omega (arith, length-append l.inputs (x ∷ []))

      more_latches : (l : Loose) (x : LatchLine) → defined_count (with_latch_line l x) ≡ suc (defined_count l)
      more_latches l x = omega (arith, length-append l.latches (x ∷ []))

      more_gates : (l : Loose) (x : GateLine) → defined_count (with_gate_line l x) ≡ suc (defined_count l)
      more_gates l x = omega (arith, length-append l.gates (x ∷ []))
