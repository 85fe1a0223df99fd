-- A shape with more states behind those of a model admits the lines of the model's words alike.
use Rattle.std.proofs.Common.{◌≡◌, ℕ, ◌+◌, ◌<◌, ◌^◌, ◌==◌, Bool, true, false, cond, ◌&&◌, ◌||◌, List, [], ◌∷◌, ◌++◌, Option, Some, None, IfSome, Result, Ok, Err, decimal, codes, length, flat_map, slice_index, slice_get, option_and_then, suc, refl, sym, ap, ap₂, subst, ◌∙◌, arith}
use Rattle.std.specs.List.{AllByRecursion, list_any}
use Rattle.std.specs.Str.{bytes_eq}
use Rattle.std.proofs.lemmas.Bool.{lt-ltb}
use Rattle.std.proofs.lemmas.List.{length-append, get_or_append_left}
use Rattle.std.proofs.lemmas.List.Folds.{list_any-append}
use Rattle.base.specs.Decimals.{number_of, is_decimal}
use Rattle.base.proofs.DecimalLemmas.{number_of-decimal, decimal_without}
use Rattle.full.specs.Lines.{Sort, words, arrays}
use Rattle.witness.specs.declared.why.Why.{Why}
use Rattle.witness.specs.declared.why.Why.TheVariants as why
use Rattle.witness.specs.Texts.{Shape, Assignment, has_free, symbol_part}
use Rattle.witness.specs.Admits.{Place, AtStatus, AtClaims, AtParts, InStates, InFrame, AtEnd, Read, cut_at_space, with_symbol, with_value, with_index, value_of, assignment_at, may_name, state_assignment_at, begins_part, opens_frame, opens_states, frame_closed, in_part, admit_at, admit}
use Rattle.witness.proofs.PieceLemmas.{cut_at_space-parts}
use Rattle.fulljudge.specs.Shapes.{FullShape, word_widths, word_shape, first_index}
use Rattle.fulljudge.specs.Lines.{address_of, indexed, value_line, line_by_index, word_line, line_in, line_at}
use Rattle.fulljudge.proofs.ReadingLemmas.{AdmitsWords}
use Rattle.fulljudge.proofs.TextLemmas.{IsCounted, Names, named_first, cell_named, AreCounted}

-- ---- the index of a line of a word

-- a line begins with no index, or with that of a word
abbrev IndexIn : List Sort → List ℕ → Type 0
IndexIn sorts line = IfSome (number_of (cut_at_space line).0) (λ i. i < length (flat_map word_widths sorts))

nothing_in : (sorts : List Sort) → IndexIn sorts []
unfolding number_of is_decimal
nothing_in sorts = tt

indexed_in : (sorts : List Sort) (o : Option ℕ) (rest : Option (List ℕ)) → IsCounted sorts → Names sorts o → IndexIn sorts (indexed o rest)
indexed_in sorts None rest few names = nothing_in sorts
indexed_in sorts (Some i) rest few names =
    let lt : i < 2 ^ 64 = omega (arith, few, names) in
    let cut : cut_at_space (decimal i ++ symbol_part rest) ≡ (decimal i, rest) = cut_at_space-parts (decimal i) rest (decimal_without 32 i (omega arith) lt) in
    subst (λ (o : Option ℕ). IfSome o (λ i. i < length (flat_map word_widths sorts))) (sym (ap (λ (c : List ℕ × Option (List ℕ)). number_of c.0) cut ∙ number_of-decimal i lt)) names

value_in : (sorts : List Sort) (i : ℕ) (o : Option Sort) (rest : Option (List ℕ)) → IsCounted sorts → slice_get sorts i ≡ o → IndexIn sorts (value_line (first_index sorts i) o rest)
value_in sorts i None rest few e = nothing_in sorts
value_in sorts i (Some (words n)) rest few e = indexed_in sorts (Some (first_index sorts i)) rest few (named_first sorts i n e)
value_in sorts i (Some (arrays k n)) None few e = nothing_in sorts
value_in sorts i (Some (arrays k n)) (Some rest) few e =
    indexed_in sorts (option_and_then (λ a. Some (first_index sorts i + a)) (address_of k (cut_at_space rest).0)) (cut_at_space rest).1 few (cell_named sorts i k n (cut_at_space rest).0 e)

by_index_in : (sorts : List Sort) (o : Option ℕ) (rest : Option (List ℕ)) → IsCounted sorts → IndexIn sorts (line_by_index sorts o rest)
by_index_in sorts None rest few = nothing_in sorts
by_index_in sorts (Some i) rest few = value_in sorts i (slice_get sorts i) rest few refl

word_in : (sorts : List Sort) (line : List ℕ) → IsCounted sorts → IndexIn sorts (word_line sorts line)
unfolding word_line
word_in sorts line few = by_index_in sorts (number_of (cut_at_space line).0) (cut_at_space line).1 few

-- ---- more states

abbrev pub with_states : Shape → List ℕ → List Bool → Shape
with_states s more flags = record { bads = s.bads; states = s.states ++ more; free = s.free ++ flags; inputs = s.inputs }

none_free : (flags : List Bool) → AllByRecursion (λ b. b ≡ false) flags → list_any (λ b. b) flags ≡ false
none_free [] h = refl
none_free (b ∷ bs) h = rw (h.0, none_free bs h.1) refl

or_none : (b : Bool) → (b || false) ≡ b
or_none true = refl
or_none false = refl

module _ (s : Shape) (more : List ℕ) (flags : List Bool) (as_many : length s.free ≡ length s.states) (none : AllByRecursion (λ b. b ≡ false) flags) where
  abbrev over : Shape
  over = with_states s more flags

  free_alike : has_free over ≡ has_free s
  free_alike = list_any-append (λ b. b) s.free flags ∙ ap (λ (b : Bool). list_any (λ c. c) s.free || b) (none_free flags none) ∙ or_none (list_any (λ c. c) s.free)

  -- an assignment of a word that is there
  index_alike : (before : List Assignment) (rest : Option (List ℕ)) (o : Option ℕ) → IfSome o (λ i. i < length s.states) → with_index (s.states ++ more) before rest o ≡ with_index s.states before rest o
  index_alike before rest None h = refl
  index_alike before rest (Some i) h =
      let within : i < length (s.states ++ more) = omega (arith, h, length-append s.states more) in
      rw (lt-ltb i (length (s.states ++ more)) within, lt-ltb i (length s.states) h)
      (ap (λ (r : Result (List Assignment) Why). cond (list_any (λ (a : Assignment). a.index == i) before) (Err why.IndexTwice) r) (value_alike rest))
    where
      width_alike : slice_index (s.states ++ more) i ≡ slice_index s.states i
      width_alike = get_or_append_left s.states more 0 i h

      value_alike : (rest : Option (List ℕ)) → with_value (s.states ++ more) before i rest ≡ with_value s.states before i rest
      value_alike None = refl
      value_alike (Some bytes) = ap (λ (n : ℕ). with_symbol before i (cut_at_space bytes).1 (value_of n (cut_at_space bytes).0)) width_alike

  may_alike : {A : Type 0} (closed : List A) (o : Option ℕ) → IfSome o (λ i. i < length s.states) → may_name over closed o ≡ may_name s closed o
  may_alike [] o h = refl
  may_alike (x ∷ xs) None h = refl
  may_alike (x ∷ xs) (Some i) h = get_or_append_left s.free flags false i (subst (λ (n : ℕ). i < n) (sym as_many) h)

  assigned_alike : {A : Type 0} (closed : List A) (before : List Assignment) (line : List ℕ) → IfSome (number_of (cut_at_space line).0) (λ i. i < length s.states) → state_assignment_at over closed before line ≡ state_assignment_at s closed before line
  unfolding state_assignment_at assignment_at
  assigned_alike closed before line h =
      ap₂ (λ (b : Bool) (r : Result (List Assignment) Why). cond b r (Err why.BadIndex)) (may_alike closed (number_of (cut_at_space line).0) h) (index_alike before (cut_at_space line).1 (number_of (cut_at_space line).0) h)

-- ---- lines

module _ (shape : FullShape) (few : AreCounted shape) (more : List ℕ) (flags : List Bool) (as_many : length (word_shape shape).free ≡ length (word_shape shape).states) (none : AllByRecursion (λ b. b ≡ false) flags) where
  abbrev s : Shape
  s = word_shape shape

  abbrev wider : Shape
  wider = with_states s more flags

  in_states : (r : Read) (line : List ℕ) (b : Bool) → begins_part line ≡ b
      → in_part r (cond b line (word_line shape.states line)) (state_assignment_at wider r.closed r.open_part (cond b line (word_line shape.states line))) ≡ in_part r (cond b line (word_line shape.states line)) (state_assignment_at s r.closed r.open_part (cond b line (word_line shape.states line)))
  in_states r line true e = rw e refl
  in_states r line false e = ap (in_part r (word_line shape.states line)) (assigned_alike s more flags as_many none r.closed r.open_part (word_line shape.states line) (word_in shape.states line few.states))

  place_alike : (r : Read) (line : List ℕ) (at : Place) → admit_at wider r (line_at shape at line) at ≡ admit_at s r (line_at shape at line) at
  place_alike r line AtStatus = refl
  place_alike r line AtClaims = refl
  place_alike r line AtParts = refl
  place_alike r line InStates =
      ap (λ (o : Result Read Why). cond (opens_frame (length r.closed) (line_in shape.states line)) (Ok (record r { place = InFrame; states = Some r.open_part; open_part = [] })) o) (in_states r line (begins_part line) refl)
  place_alike r line InFrame =
      ap (λ (b : Bool). cond (opens_frame (suc (length r.closed)) (line_in shape.inputs line)) (Ok (frame_closed InFrame r))
      (cond (opens_states (suc (length r.closed)) (line_in shape.inputs line) && b) (Ok (frame_closed InStates r))
      (cond (bytes_eq (line_in shape.inputs line) (codes ".")) (Ok (frame_closed AtEnd r)) (in_part r (line_in shape.inputs line) (assignment_at shape_inputs r.open_part (line_in shape.inputs line)))))) (free_alike s more flags as_many none)
    where
      shape_inputs : List ℕ
      shape_inputs = s.inputs
  place_alike r line AtEnd = refl

  pub admits_alike : AdmitsWords shape wider
  unfolding admit
  admits_alike r line = place_alike r line r.place
