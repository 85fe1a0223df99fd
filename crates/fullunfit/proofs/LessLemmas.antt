-- A witness without the words that are not told is one, and says less.
use Rattle.std.proofs.Common.{◌≡◌, ℕ, zero, suc, ◌<◌, ◌≤◌, ◌^◌, ◌==◌, Bool, true, false, cond, not, nat_eq, eqb-true, List, [], ◌∷◌, ◌++◌, filter, map, length, get_or, Option, Some, None, IfSome, All, find, option_map, unwrap_or, decimal, codes, refl, sym, ap, ap₂, subst, ◌∙◌, arith}
use Rattle.std.specs.List.{AllByRecursion, list_any}
use Rattle.std.proofs.lemmas.Bool.{true≢false, and_parts, or_parts}
use Rattle.std.proofs.lemmas.List.{length-append, length-map}
use Rattle.std.proofs.lemmas.List.Elements.{All-filter, recursion_from_All}
use Rattle.full.specs.Lines.{Sort}
use Rattle.fit.proofs.ListLemmas.{all_with}
use Rattle.witness.specs.Texts.{Shape, Assignment, IsAssignment, IsPart, IsFreePart, AreParts, AreFrames, IsWitness, Parts, Witness, are_distinct, is_free_index, assignment_line, states_lines, frame_lines, witness_lines}
use Rattle.witness.specs.Judgements.{pairs_of, frame_words, given}
use Rattle.unfit.specs.Joined.{Fronts, Lined, is_told}
use Rattle.fulljudge.specs.Shapes.{value_of_word}
use Rattle.fulljudge.specs.Compared.{has_other_node}
use Rattle.fulljudge.specs.Kept.{words_in}
use Rattle.fulljudge.proofs.LeftOutLemmas.{FirstLess, FramesLess}
use Rattle.fullunfit.specs.Unfitted.{told_part, told_parts, told_frames, told_witness}
use Rattle.fullunfit.proofs.TitleLemmas.{fronts_of, told_within}

-- ---- lists

all_kept : (test : Assignment → Bool) (list : List Assignment) → AllByRecursion (λ a. test a ≡ true) list → filter test list ≡ list
all_kept test [] h = refl
all_kept test (a ∷ list) h = ap (λ (b : Bool). cond b (a ∷ filter test list) (filter test list)) h.0 ∙ ap (λ (l : List Assignment). a ∷ l) (all_kept test list h.1)

fewer : (test : Assignment → Bool) (list : List Assignment) → length (filter test list) ≤ length list
fewer test [] = omega arith
fewer test (a ∷ list) = by (test a) (fewer test list)
  where
    by : (b : Bool) → length (filter test list) ≤ length list → length (cond b (a ∷ filter test list) (filter test list)) ≤ suc (length list)
    by true h = omega (arith, h)
    by false h = omega (arith, h)

none_among : (test : Assignment → Bool) (i : ℕ) (list : List Assignment) → list_any (λ y. y == i) (map (λ (a : Assignment). a.index) list) ≡ false → list_any (λ y. y == i) (map (λ (a : Assignment). a.index) (filter test list)) ≡ false
none_among test i [] h = refl
none_among test i (a ∷ list) h = let parts = or_parts (a.index == i) _ h in by (test a) parts.0 (none_among test i list parts.1)
  where
    by : (b : Bool) → (a.index == i) ≡ false → list_any (λ y. y == i) (map (λ (a : Assignment). a.index) (filter test list)) ≡ false
        → list_any (λ y. y == i) (map (λ (a : Assignment). a.index) (cond b (a ∷ filter test list) (filter test list))) ≡ false
    by true e rest = rw (e, rest) refl
    by false e rest = rest

stay_distinct : (test : Assignment → Bool) (list : List Assignment) → are_distinct (map (λ (a : Assignment). a.index) list) ≡ true → are_distinct (map (λ (a : Assignment). a.index) (filter test list)) ≡ true
stay_distinct test [] h = refl
stay_distinct test (a ∷ list) h =
    let parts = and_parts (not (list_any (λ y. y == a.index) (map (λ (a : Assignment). a.index) list))) _ h in
    by (test a) (none_among test a.index list (was_false _ parts.0)) (stay_distinct test list parts.1)
  where
    was_false : (b : Bool) → not b ≡ true → b ≡ false
    was_false false e = refl
    was_false true e = absurd (true≢false (sym e))

    by : (b : Bool) → list_any (λ y. y == a.index) (map (λ (a : Assignment). a.index) (filter test list)) ≡ false → are_distinct (map (λ (a : Assignment). a.index) (filter test list)) ≡ true
        → are_distinct (map (λ (a : Assignment). a.index) (cond b (a ∷ filter test list) (filter test list))) ≡ true
    by true none rest = rw (none, rest) refl
    by false none rest = rest

part_stays : (widths : List ℕ) (fronts : Fronts) (k : ℕ) (list : List Assignment) → IsPart widths list → IsPart widths (told_part fronts k list)
part_stays widths fronts k list is = record {
  each = All-filter (λ (a : Assignment). is_told fronts k a.index) (IsAssignment widths) list is.each;
  distinct = stay_distinct (λ (a : Assignment). is_told fronts k a.index) list is.distinct;
}

-- ---- what is given

given_kept : (test : ℕ → Bool) (k : ℕ) (list : List Assignment) → test k ≡ true → given (pairs_of (filter (λ (a : Assignment). test a.index) list)) k ≡ given (pairs_of list) k
given_kept test k [] h = refl
given_kept test k (a ∷ list) h = by (test a.index) (nat_eq a.index k) refl refl (given_kept test k list h)
  where
    by : (b c : Bool) → test a.index ≡ b → nat_eq a.index k ≡ c → given (pairs_of (filter (λ (a : Assignment). test a.index) list)) k ≡ given (pairs_of list) k
        → given (pairs_of (cond b (a ∷ filter (λ (a : Assignment). test a.index) list) (filter (λ (a : Assignment). test a.index) list))) k ≡ option_map (λ (p : ℕ × ℕ). p.1) (cond (nat_eq a.index k) (Some (a.index, a.word)) (find (λ (p : ℕ × ℕ). p.0 == k) (pairs_of list)))
    by true true t e rest = rw e refl
    by true false t e rest = rw e rest
    by false true t e rest = absurd (true≢false (sym h ∙ ap test (sym (eqb-true a.index k e)) ∙ t))
    by false false t e rest = rw e rest

given_none : (test : ℕ → Bool) (k : ℕ) (list : List Assignment) → test k ≡ false → given (pairs_of (filter (λ (a : Assignment). test a.index) list)) k ≡ None
given_none test k [] h = refl
given_none test k (a ∷ list) h = by (test a.index) (nat_eq a.index k) refl refl (given_none test k list h)
  where
    by : (b c : Bool) → test a.index ≡ b → nat_eq a.index k ≡ c → given (pairs_of (filter (λ (a : Assignment). test a.index) list)) k ≡ None
        → given (pairs_of (cond b (a ∷ filter (λ (a : Assignment). test a.index) list) (filter (λ (a : Assignment). test a.index) list))) k ≡ None
    by true true t e rest = absurd (true≢false (sym t ∙ ap test (eqb-true a.index k e) ∙ h))
    by true false t e rest = rw e rest
    by false c t e rest = rest

-- ---- free states

none_free_at : (flags : List Bool) (i : ℕ) → AllByRecursion (λ b. b ≡ false) flags → get_or flags i false ≡ false
none_free_at [] i h = refl
none_free_at (b ∷ bs) zero h = h.0
none_free_at (b ∷ bs) (suc i) h = none_free_at bs i h.1

pub free_front : (xs flags : List Bool) (i : ℕ) → AllByRecursion (λ b. b ≡ false) flags → get_or (xs ++ flags) i false ≡ true → i < length xs
free_front [] flags i none e = absurd (true≢false (sym e ∙ none_free_at flags i none))
free_front (x ∷ xs) flags zero none e = omega arith
free_front (x ∷ xs) flags (suc i) none e = omega (arith, free_front xs flags i none e)

-- ---- a witness

module _ (shape : Shape) (l : Lined) (states inputs : List Sort) (leaves nodes : List ℕ) (of_states : l.states ≡ fronts_of states leaves nodes) (of_inputs : l.inputs ≡ fronts_of inputs [] []) (few_states : words_in states < 2 ^ 64) (few_inputs : words_in inputs < 2 ^ 64)
    (same_inputs : length shape.inputs ≡ words_in inputs) (free_words : (i : ℕ) → is_free_index shape i ≡ true → i < words_in states) where
  state_told : (f k : ℕ) → k < words_in states → is_told l.states (suc f) k ≡ true
  state_told f k h = ap (λ (fronts : Fronts). is_told fronts (suc f) k) of_states ∙ told_within states leaves nodes (suc f) k few_states h

  first_told : (k : ℕ) → k < words_in states → is_told l.states 0 k ≡ not (has_other_node leaves nodes (value_of_word states k))
  first_told k h = ap (λ (fronts : Fronts). is_told fronts 0 k) of_states ∙ told_within states leaves nodes 0 k few_states h

  input_told : (f k : ℕ) → k < words_in inputs → is_told l.inputs f k ≡ true
  input_told zero k h = ap (λ (fronts : Fronts). is_told fronts 0 k) of_inputs ∙ told_within inputs [] [] 0 k few_inputs h
  input_told (suc f) k h = ap (λ (fronts : Fronts). is_told fronts (suc f) k) of_inputs ∙ told_within inputs [] [] (suc f) k few_inputs h

  -- inputs are all told
  inputs_stay : (f : ℕ) (list : List Assignment) → IsPart shape.inputs list → told_part l.inputs f list ≡ list
  inputs_stay f list is =
      all_kept (λ (a : Assignment). is_told l.inputs f a.index) list
      (all_with (IsAssignment shape.inputs) (λ (a : Assignment). is_told l.inputs f a.index ≡ true) list (λ a assigned. let within = assigned.index in input_told f a.index (omega (arith, within, same_inputs)))
      (recursion_from_All (IsAssignment shape.inputs) list is.each))

  free_stay : (f : ℕ) (o : Option (List Assignment)) → IfSome o (IsFreePart shape) → option_map (told_part l.states (suc f)) o ≡ o
  free_stay f None is = refl
  free_stay f (Some list) is =
      ap (λ (xs : List Assignment). Some xs)
      (all_kept (λ (a : Assignment). is_told l.states (suc f) a.index) list
      (all_with (λ (a : Assignment). is_free_index shape a.index ≡ true) (λ (a : Assignment). is_told l.states (suc f) a.index ≡ true) list (λ a free. state_told f a.index (free_words a.index free))
      (recursion_from_All (λ (a : Assignment). is_free_index shape a.index ≡ true) list is.free)))

  -- later frames stay
  later_stay : (f : ℕ) (later : List Parts) → AllByRecursion (AreParts shape (IsFreePart shape)) later → told_frames l (suc f) later ≡ later
  later_stay f [] h = refl
  later_stay f (parts ∷ later) h =
      ap₂ (λ (p : Parts) (ps : List Parts). p ∷ ps) (ap₂ (λ (s : Option (List Assignment)) (i : List Assignment). let p : Parts = record { states = s; inputs = i } in p) (free_stay f parts.states h.0.states) (inputs_stay (suc f) parts.inputs h.0.inputs))
      (later_stay (suc f) later h.1)

  abbrev Later : List Parts → Type 0
  Later later = AllByRecursion (AreParts shape (IsFreePart shape)) later

  later_of : (later : List Parts) → All (AreParts shape (IsFreePart shape)) later → Later later
  later_of later h = recursion_from_All (AreParts shape (IsFreePart shape)) later h

  frames_stay : (frames : List Parts) → AreFrames shape frames → AreFrames shape (told_frames l 0 frames)
  frames_stay [] h = h
  frames_stay (first ∷ later) h = (
    record {
      states = by first.states h.0.states;
      inputs = part_stays shape.inputs l.inputs 0 first.inputs h.0.inputs;
    },
    subst (All (AreParts shape (IsFreePart shape))) (sym (later_stay 0 later (later_of later h.1))) h.1,
  )
    where
      by : (o : Option (List Assignment)) → IfSome o (IsPart shape.states) → IfSome (option_map (told_part l.states 0) o) (IsPart shape.states)
      by None is = tt
      by (Some list) is = part_stays shape.states l.states 0 list is

  -- it is a witness
  pub stays_valid : (v : Witness) → IsWitness shape v → IsWitness shape (told_witness l v)
  stays_valid v valid = record { some_claim = valid.some_claim; claims = valid.claims; distinct = valid.distinct; frames = frames_stay v.frames valid.frames }

  -- of no more lines
  states_fewer : (k : ℕ) (o : Option (List Assignment)) → length (states_lines shape.states k (option_map (told_part l.states k) o)) ≤ length (states_lines shape.states k o)
  states_fewer k None = omega arith
  states_fewer k (Some list) =
      omega (arith, fewer (λ (a : Assignment). is_told l.states k a.index) list, length-map (told_part l.states k list) (assignment_line shape.states), length-map list (assignment_line shape.states))

  frames_fewer : (k : ℕ) (frames : List Parts) → length (frame_lines shape k (told_frames l k frames)) ≤ length (frame_lines shape k frames)
  frames_fewer k [] = omega arith
  frames_fewer k (parts ∷ more) =
      let of_states : Option (List Assignment) = option_map (told_part l.states k) parts.states in
      let of_inputs : List Assignment = told_part l.inputs k parts.inputs in
      let rest : List (List ℕ) = frame_lines shape (suc k) (told_frames l (suc k) more) in
      let all : List (List ℕ) = frame_lines shape (suc k) more in
      omega (
        arith,
        states_fewer k parts.states,
        fewer (λ (a : Assignment). is_told l.inputs k a.index) parts.inputs,
        frames_fewer (suc k) more,
        length-append (states_lines shape.states k of_states) ((64 ∷ decimal k) ∷ (map (assignment_line shape.inputs) of_inputs ++ rest)),
        length-append (map (assignment_line shape.inputs) of_inputs) rest,
        length-map of_inputs (assignment_line shape.inputs),
        length-append (states_lines shape.states k parts.states) ((64 ∷ decimal k) ∷ (map (assignment_line shape.inputs) parts.inputs ++ all)),
        length-append (map (assignment_line shape.inputs) parts.inputs) all,
        length-map parts.inputs (assignment_line shape.inputs),
      )

  pub stays_few : (v : Witness) → length (witness_lines shape [] (told_witness l v)) ≤ length (witness_lines shape [] v)
  stays_few v = omega (arith, frames_fewer 0 v.frames, length-append (frame_lines shape 0 (told_frames l 0 v.frames)) (codes "." ∷ []), length-append (frame_lines shape 0 v.frames) (codes "." ∷ []))

  -- and says less
  first_less : (first : Parts) → AreParts shape (IsPart shape.states) first → FirstLess (has_other_node leaves nodes) states (frame_words first) (frame_words (told_parts l 0 first))
  first_less first h = record {
    inputs = ap pairs_of (inputs_stay 0 first.inputs h.inputs);
    kept = λ k within has. kept first.states k (first_told k within ∙ ap not has);
    none = λ k within gone. gone_at first.states k (first_told k within ∙ ap not gone);
  }
    where
      kept : (o : Option (List Assignment)) (k : ℕ) → is_told l.states 0 k ≡ true → given (pairs_of (unwrap_or (option_map (told_part l.states 0) o) [])) k ≡ given (pairs_of (unwrap_or o [])) k
      kept None k told = refl
      kept (Some list) k told = given_kept (is_told l.states 0) k list told

      gone_at : (o : Option (List Assignment)) (k : ℕ) → is_told l.states 0 k ≡ false → given (pairs_of (unwrap_or (option_map (told_part l.states 0) o) [])) k ≡ None
      gone_at None k told = refl
      gone_at (Some list) k told = given_none (is_told l.states 0) k list told

  pub frames_less : (frames : List Parts) → AreFrames shape frames → FramesLess (has_other_node leaves nodes) states (map frame_words frames) (map frame_words (told_frames l 0 frames))
  frames_less [] h = absurd h
  frames_less (first ∷ later) h = (first_less first h.0, ap (map frame_words) (later_stay 0 later (later_of later h.1)))
