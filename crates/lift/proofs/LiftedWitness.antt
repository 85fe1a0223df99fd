-- The lines of a witness of a circuit are lifted to the lines of a witness over the model.
use Rattle.std.proofs.Common.{◌≡◌, ◌≢◌, ℕ, suc, ◌+◌, ◌<◌, ◌≤◌, ◌==◌, ◌&&◌, Bool, true, false, List, [], ◌∷◌, ◌++◌, Option, Some, None, IfSome, All, map, length, drop, decimal, codes, length-drop, append_assoc, refl, sym, ap, ap₂, ◌∙◌, arith, true≢false}
use Rattle.std.specs.Prelude.{if◌then◌else◌}
use Rattle.std.specs.List.{list_any, AllByRecursion}
use Rattle.std.proofs.lemmas.Bool.{false_from_ne_true}
use Rattle.std.proofs.lemmas.List.{map-append}
use Rattle.std.proofs.lemmas.List.Sums.{sum_by-cons}
use Rattle.std.proofs.lemmas.List.Elements.{All-nil, All-cons, All-from_recursion, All-append}
use Rattle.btor2.specs.declared.item.Item.{Item}
use Rattle.btor2.specs.declared.item.Body.{Body}
use Rattle.btor2.specs.Items.{is_input, is_state, is_free_state, is_carried_state}
use Rattle.btor2.specs.Trace.{bits_of}
use Rattle.btor2.specs.Leaves.{kind_width}
use Rattle.btor2.specs.Lists.{of_kind as leaves_of}
use Rattle.blast.specs.Leaves.{by_body}
use Rattle.blast.specs.Cost.{input_width, given_width, carried_width}
use Rattle.witness.specs.Texts.{Shape, Assignment, shape_of, has_free, is_free_index, claim, assignment_line, states_lines, frame_lines, witness_lines, are_distinct, IsAssignment, IsPart, IsFreePart, AreFrames, IsWitness, AreParts}
use Rattle.witness.specs.BitTexts.{BitWitness, bit_line, bit_witness_lines}
use Rattle.witness.proofs.PieceLemmas.{bits_of_digits}
use Rattle.witness.proofs.BitReadLemmas.{bits_are_no_end}
use Rattle.lift.proofs.LeafLemmas.{lifted_input_lines, carried_lines}
use Rattle.lift.specs.Lifted.{names, free_lines, initial_piece, free_piece, frame_piece, bits_of_line, piece, lifted_lines}
use Rattle.lift.proofs.AssignedLemmas.{any_leaf, takes_free, takes_carried, assigned_inputs, assigned_carried, assigned_free, later_parts, later_frames, lifted_frames, lifted_witness, are_names, assigned_lines, assigned_fit, indices, assigned_distinct, both_distinct, flag_of_index, free_flags, carried_flags}
use Rattle.lift.proofs.PutLemmas.{hash}

-- ---- how many bits the leaves take

width_among : (items : List Item) (kind : Body → Bool) (takes k : Item → Bool) → ((x : Item) → k x ≡ (kind x.body && takes x)) → (xs : List Item) → kind_width items k xs ≡ kind_width items takes (leaves_of kind xs)
width_among items kind takes k same [] = refl
width_among items kind takes k same (x ∷ xs) =
    sum_by-cons (λ (y : Item). if k y then bits_of items y.id else 0) x xs ∙ ap₂ (λ (b : Bool) (n : ℕ). (if b then bits_of items x.id else 0) + n) (same x) (width_among items kind takes k same xs) ∙ by (kind x.body)
  where
    by : (b : Bool) → (if b && takes x then bits_of items x.id else 0) + kind_width items takes (leaves_of kind xs) ≡ kind_width items takes (if b then x ∷ leaves_of kind xs else leaves_of kind xs)
    by true = sym (sum_by-cons (λ (y : Item). if takes y then bits_of items y.id else 0) x (leaves_of kind xs))
    by false = omega arith

pub and_any : (b : Bool) → b ≡ (b && true)
and_any true = refl
and_any false = refl

wide_inputs : (items : List Item) → input_width items ≡ kind_width items any_leaf (leaves_of is_input items)
wide_inputs items = width_among items is_input any_leaf (by_body is_input) (λ x. and_any (is_input x.body)) items

wide_free : (items : List Item) → kind_width items (is_free_state items) items ≡ kind_width items (takes_free items) (leaves_of is_state items)
wide_free items = width_among items is_state (takes_free items) (is_free_state items) (λ x. refl) items

wide_carried : (items : List Item) → carried_width items ≡ kind_width items (takes_carried items) (leaves_of is_state items)
wide_carried items = width_among items is_state (takes_carried items) (is_carried_state items) (λ x. refl) items

-- the bits of a frame are enough for its leaves
inputs_enough : (items : List Item) (bs : List Bool) → length bs ≡ given_width items → kind_width items any_leaf (leaves_of is_input items) ≤ length bs
inputs_enough items bs h = omega (arith, h, wide_inputs items)

free_enough : (items : List Item) (bs : List Bool) → length bs ≡ given_width items → kind_width items (takes_free items) (leaves_of is_state items) ≤ length (drop (input_width items) bs)
free_enough items bs h = omega (arith, h, wide_free items, length-drop (input_width items) bs)

carried_enough : (items : List Item) (bs : List Bool) → length bs ≡ carried_width items → kind_width items (takes_carried items) (leaves_of is_state items) ≤ length bs
carried_enough items bs h = omega (arith, h, wide_carried items)

abbrev pub AreWide : List Item → List (List Bool) → Type 0
AreWide items frames = AllByRecursion (λ bs. length bs ≡ given_width items) frames

-- ---- the lines of words

inputs_written : (items : List Item) (name : Item → Option (List ℕ)) (bs : List Bool) → length bs ≡ given_width items → map (assignment_line (shape_of items).inputs) (assigned_inputs items name bs) ≡ lifted_input_lines items name bs
inputs_written items name bs h = assigned_lines items any_leaf name (shape_of items).inputs [] 0 (leaves_of is_input items) bs (refl, refl) (inputs_enough items bs h)

free_written : (items : List Item) (name : Item → Option (List ℕ)) (bs : List Bool) → length bs ≡ given_width items → map (assignment_line (shape_of items).states) (assigned_free items name (drop (input_width items) bs)) ≡ free_lines items name (drop (input_width items) bs)
free_written items name bs h = assigned_lines items (takes_free items) name (shape_of items).states [] 0 (leaves_of is_state items) (drop (input_width items) bs) (refl, refl) (free_enough items bs h)

carried_written : (items : List Item) (name : Item → Option (List ℕ)) (bs : List Bool) → length bs ≡ carried_width items → map (assignment_line (shape_of items).states) (assigned_carried items name bs) ≡ carried_lines items name bs
carried_written items name bs h = assigned_lines items (takes_carried items) name (shape_of items).states [] 0 (leaves_of is_state items) bs (refl, refl) (carried_enough items bs h)

-- ---- the lines of frames

frame_is : (named : Bool) (items : List Item) (k : ℕ) (bs : List Bool) → piece named items (suc (suc (suc k))) (bit_line bs) ≡ frame_piece named items k bs
frame_is named items k bs = ap (λ (b : Bool). if b then bit_line bs ∷ [] else frame_piece named items k (bits_of_line (bit_line bs))) (bits_are_no_end bs) ∙ ap (frame_piece named items k) (bits_of_digits bs)

later_states : (named : Bool) (items : List Item) (k : ℕ) (bs : List Bool) → length bs ≡ given_width items → states_lines (shape_of items).states (suc k) (later_parts named items (suc k) bs).states ≡ free_piece named items (suc k) (drop (input_width items) bs)
later_states named items k bs h = by (has_free (shape_of items))
  where
    by : (b : Bool) → states_lines (shape_of items).states (suc k) (if b then Some (assigned_free items (names named (suc k)) (drop (input_width items) bs)) else None) ≡ (if b then (35 ∷ decimal (suc k)) ∷ free_lines items (names named (suc k)) (drop (input_width items) bs) else [])
    by true = ap (λ (l : List (List ℕ)). (35 ∷ decimal (suc k)) ∷ l) (free_written items (names named (suc k)) bs h)
    by false = refl

regroup : {A : Type 0} (m : A) (s i r e : List A) → (s ++ m ∷ i) ++ (r ++ e) ≡ (s ++ m ∷ (i ++ r)) ++ e
regroup m s i r e = append_assoc s (m ∷ i) (r ++ e) ∙ (ap (λ l. s ++ m ∷ l) (sym (append_assoc i r e)) ∙ sym (append_assoc s (m ∷ (i ++ r)) e))

later_lines : (named : Bool) (items : List Item) (k : ℕ) (frames : List (List Bool)) → AreWide items frames
    → lifted_lines named items (suc (suc (suc (suc k)))) (map bit_line frames ++ codes "." ∷ []) ≡ frame_lines (shape_of items) (suc k) (later_frames named items (suc k) frames) ++ codes "." ∷ []
later_lines named items k [] h = refl
later_lines named items k (bs ∷ more) h =
    let rest = later_lines named items (suc k) more h.1 in
    let own : piece named items (suc (suc (suc (suc k)))) (bit_line bs) ≡ states_lines (shape_of items).states (suc k) (later_parts named items (suc k) bs).states ++ (64 ∷ decimal (suc k)) ∷ map (assignment_line (shape_of items).inputs) (assigned_inputs items (names named (suc k)) bs) =
    frame_is named items (suc k) bs ∙ ap₂ (λ (s i : List (List ℕ)). s ++ (64 ∷ decimal (suc k)) ∷ i) (sym (later_states named items k bs h.0)) (sym (inputs_written items (names named (suc k)) bs h.0)) in
    ap₂ ◌++◌ own rest
    ∙ regroup (64 ∷ decimal (suc k)) (states_lines (shape_of items).states (suc k) (later_parts named items (suc k) bs).states) (map (assignment_line (shape_of items).inputs) (assigned_inputs items (names named (suc k)) bs)) (frame_lines (shape_of items) (suc (suc k)) (later_frames named items (suc (suc k)) more)) (codes "." ∷ [])

-- the first frame behind the initial bits
regroup_first : {A : Type 0} (h : A) (c f t e : List A) → (h ∷ c) ++ ((f ++ t) ++ e) ≡ ((h ∷ (c ++ f)) ++ t) ++ e
regroup_first h c f t e = ap (λ l. h ∷ l) (sym (append_assoc c (f ++ t) e) ∙ ap (λ l. l ++ e) (sym (append_assoc c f t)))

first_lines : (named : Bool) (items : List Item) (initial bs : List Bool) (more : List (List Bool)) → length initial ≡ carried_width items → AreWide items (bs ∷ more)
    → lifted_lines named items 2 (bit_line initial ∷ (map bit_line (bs ∷ more) ++ codes "." ∷ [])) ≡ frame_lines (shape_of items) 0 (lifted_frames named items initial (bs ∷ more)) ++ codes "." ∷ []
first_lines named items initial bs more few h =
    let shape : Shape = shape_of items in
    let carried : List (List ℕ) = map (assignment_line shape.states) (assigned_carried items (names named 0) initial) in
    let free : List (List ℕ) = map (assignment_line shape.states) (assigned_free items (names named 0) (drop (input_width items) bs)) in
    let inputs : List (List ℕ) = map (assignment_line shape.inputs) (assigned_inputs items (names named 0) bs) in
    let later : List (List ℕ) = frame_lines shape 1 (later_frames named items 1 more) in
    let end : List (List ℕ) = codes "." ∷ [] in
    let initial_is : piece named items 2 (bit_line initial) ≡ (35 ∷ decimal 0) ∷ carried = ap (initial_piece named items) (bits_of_digits initial) ∙ ap₂ ◌∷◌ (sym hash) (sym (carried_written items (names named 0) initial few)) in
    let own : piece named items 3 (bit_line bs) ≡ free ++ (64 ∷ decimal 0) ∷ inputs = frame_is named items 0 bs ∙ ap₂ (λ (s i : List (List ℕ)). s ++ (64 ∷ decimal 0) ∷ i) (sym (free_written items (names named 0) bs h.0)) (sym (inputs_written items (names named 0) bs h.0)) in
    ap₂ ◌++◌ initial_is (ap₂ ◌++◌ own (later_lines named items 0 more h.1) ∙ regroup (64 ∷ decimal 0) free inputs later end)
    ∙ regroup_first (35 ∷ decimal 0) carried free ((64 ∷ decimal 0) ∷ (inputs ++ later)) end
    ∙ ap (λ (l : List (List ℕ)). (((35 ∷ decimal 0) ∷ l) ++ (64 ∷ decimal 0) ∷ (inputs ++ later)) ++ end) (sym (map-append (assignment_line shape.states) (assigned_carried items (names named 0) initial) (assigned_free items (names named 0) (drop (input_width items) bs))))

pub lines_are_witness : (named : Bool) (items : List Item) (w : BitWitness) → w.frames ≢ [] → length w.initial ≡ carried_width items → AreWide items w.frames
    → lifted_lines named items 0 (bit_witness_lines w) ≡ witness_lines (shape_of items) [] (lifted_witness named items w)
lines_are_witness named items w some few given = by w.frames some given
  where
    by : (frames : List (List Bool)) → frames ≢ [] → AreWide items frames
        → codes "sat" ∷ (claim w.claim ∷ lifted_lines named items 2 (bit_line w.initial ∷ (map bit_line frames ++ codes "." ∷ []))) ≡ codes "sat" ∷ (claim w.claim ∷ (frame_lines (shape_of items) 0 (lifted_frames named items w.initial frames) ++ codes "." ∷ []))
    by [] some given = absurd (some refl)
    by (bs ∷ more) some given = ap (λ (l : List (List ℕ)). codes "sat" ∷ (claim w.claim ∷ l)) (first_lines named items w.initial bs more few given)

-- ---- it is a witness over the model

inputs_part : (named : Bool) (k : ℕ) (items : List Item) (bs : List Bool) → length bs ≡ given_width items → IsPart (shape_of items).inputs (assigned_inputs items (names named k) bs)
inputs_part named k items bs h =
    record {
      each = All-from_recursion (IsAssignment (shape_of items).inputs) (assigned_inputs items (names named k) bs) (assigned_fit items any_leaf (names named k) (shape_of items).inputs [] 0 (leaves_of is_input items) bs (refl, refl) (inputs_enough items bs h) (are_names named k));
      distinct = assigned_distinct items any_leaf (names named k) 0 (leaves_of is_input items) bs;
    }

free_each : (named : Bool) (k : ℕ) (items : List Item) (bs : List Bool) → length bs ≡ given_width items → All (IsAssignment (shape_of items).states) (assigned_free items (names named k) (drop (input_width items) bs))
free_each named k items bs h =
    All-from_recursion (IsAssignment (shape_of items).states) (assigned_free items (names named k) (drop (input_width items) bs))
    (assigned_fit items (takes_free items) (names named k) (shape_of items).states [] 0 (leaves_of is_state items) (drop (input_width items) bs) (refl, refl) (free_enough items bs h) (are_names named k))

free_part : (named : Bool) (k : ℕ) (items : List Item) (bs : List Bool) → length bs ≡ given_width items → IsPart (shape_of items).states (assigned_free items (names named k) (drop (input_width items) bs))
free_part named k items bs h = record { each = free_each named k items bs h; distinct = assigned_distinct items (takes_free items) (names named k) 0 (leaves_of is_state items) (drop (input_width items) bs) }

-- no state is free and carried
apart : (items : List Item) (name : Item → Option (List ℕ)) (initial bs : List Bool) (i : ℕ) → list_any (λ y. y == i) (indices (assigned_carried items name initial)) ≡ true → list_any (λ y. y == i) (indices (assigned_free items name bs)) ≡ false
apart items name initial bs i h =
    let carried : is_free_index (shape_of items) i ≡ false = flag_of_index (shape_of items).free false (assigned_carried items name initial) i (carried_flags items name initial) h in
    false_from_ne_true (list_any (λ y. y == i) (indices (assigned_free items name bs)))
    (λ e. let free : is_free_index (shape_of items) i ≡ true = flag_of_index (shape_of items).free true (assigned_free items name bs) i (free_flags items name bs) e in
    absurd (true≢false (sym free ∙ carried)))

first_states : (named : Bool) (items : List Item) (initial bs : List Bool) → length initial ≡ carried_width items → length bs ≡ given_width items → IsPart (shape_of items).states (assigned_carried items (names named 0) initial ++ assigned_free items (names named 0) (drop (input_width items) bs))
first_states named items initial bs few h =
    let behind : List Bool = drop (input_width items) bs in
    let carried = All-from_recursion (IsAssignment (shape_of items).states) (assigned_carried items (names named 0) initial) (assigned_fit items (takes_carried items) (names named 0) (shape_of items).states [] 0 (leaves_of is_state items) initial (refl, refl) (carried_enough items initial few) (are_names named 0)) in
    record {
      each = All-append (IsAssignment (shape_of items).states) (assigned_carried items (names named 0) initial) (assigned_free items (names named 0) behind) carried (free_each named 0 items bs h);
      distinct =
          ap are_distinct (map-append (λ (a : Assignment). a.index) (assigned_carried items (names named 0) initial) (assigned_free items (names named 0) behind))
          ∙ both_distinct (indices (assigned_carried items (names named 0) initial)) (indices (assigned_free items (names named 0) behind)) (assigned_distinct items (takes_carried items) (names named 0) 0 (leaves_of is_state items) initial) (assigned_distinct items (takes_free items) (names named 0) 0 (leaves_of is_state items) behind) (apart items (names named 0) initial behind);
    }

later_is : (named : Bool) (k : ℕ) (items : List Item) (bs : List Bool) → length bs ≡ given_width items → AreParts (shape_of items) (IsFreePart (shape_of items)) (later_parts named items k bs)
later_is named k items bs h = record { states = by (has_free (shape_of items)) refl; inputs = inputs_part named k items bs h }
  where
    by : (b : Bool) → has_free (shape_of items) ≡ b → IfSome (if b then Some (assigned_free items (names named k) (drop (input_width items) bs)) else None) (IsFreePart (shape_of items))
    by true some = record { some = some; part = free_part named k items bs h; free = All-from_recursion (λ (a : Assignment). is_free_index (shape_of items) a.index ≡ true) (assigned_free items (names named k) (drop (input_width items) bs)) (free_flags items (names named k) (drop (input_width items) bs)) }
    by false none = tt

all_later : (named : Bool) (k : ℕ) (items : List Item) (frames : List (List Bool)) → AreWide items frames → All (AreParts (shape_of items) (IsFreePart (shape_of items))) (later_frames named items k frames)
all_later named k items [] h = All-nil (AreParts (shape_of items) (IsFreePart (shape_of items)))
all_later named k items (bs ∷ more) h = All-cons (AreParts (shape_of items) (IsFreePart (shape_of items))) (later_parts named items k bs) (later_frames named items (suc k) more) (later_is named k items bs h.0) (all_later named (suc k) items more h.1)

pub lifted_is_witness : (named : Bool) (items : List Item) (w : BitWitness) → w.claim < (shape_of items).bads → w.frames ≢ [] → length w.initial ≡ carried_width items → AreWide items w.frames → IsWitness (shape_of items) (lifted_witness named items w)
lifted_is_witness named items w below some few given =
    record {
      some_claim = λ e. absurd (cc);
      claims = All-cons (λ (i : ℕ). i < (shape_of items).bads) w.claim [] below (All-nil (λ (i : ℕ). i < (shape_of items).bads));
      distinct = refl;
      frames = by w.frames some given;
    }
  where
    by : (frames : List (List Bool)) → frames ≢ [] → AreWide items frames → AreFrames (shape_of items) (lifted_frames named items w.initial frames)
    by [] some given = absurd (some refl)
    by (bs ∷ more) some given = (record { states = first_states named items w.initial bs few given.0; inputs = inputs_part named 0 items bs given.0 }, all_later named 1 items more given.1)
