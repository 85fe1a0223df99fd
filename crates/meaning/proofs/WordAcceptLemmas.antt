-- What can be reached in a model is accepted: a text of the words up to the frame in which it rises.
use Rattle.std.proofs.Common.{◌≡◌, ◌≢◌, ℕ, zero, suc, ◌+◌, ◌*◌, ◌<◌, ◌≤◌, ◌^◌, Bool, true, false, cond, not, ◌&&◌, ◌||◌, eq-eqb, List, [], ◌∷◌, ◌++◌, map, take, drop, length, codes, decimal, Option, Some, None, unwrap_or, is_none, option_and_then, length-append, append_assoc, refl, sym, ap, ap₂, subst, ◌∙◌, arith}
use Rattle.std.specs.Prelude.{if◌then◌else◌}
use Rattle.std.specs.List.{position_from, AllByRecursion}
use Rattle.std.proofs.lemmas.List.{length-map, length-take-le}
use Rattle.std.proofs.lemmas.List.Elements.{All-nil, Contains-get_or}
use Rattle.std.proofs.lemmas.Nat.{mul-le}
use Rattle.std.proofs.Math.Nat.{suc-mul}
use Rattle.base.specs.Word.{word}
use Rattle.base.specs.Lines.{IsLine, text_of_lines}
use Rattle.base.specs.Shown.{rises_in_some}
use Rattle.base.proofs.BitLemmas.{length-bits, word-bits}
use Rattle.btor2.specs.declared.item.Item.{Item}
use Rattle.btor2.specs.declared.item.Body.{Body}
use Rattle.btor2.specs.declared.item.Body.TheVariants as body
use Rattle.btor2.specs.Items.{find_item, is_input, is_state, is_bad, is_free, is_free_state, is_carried_state, init_value, next_value, constant_of, init_word}
use Rattle.btor2.specs.Check.{IsWellFormed}
use Rattle.btor2.specs.Trace.{Frame, bits_of, next_state, InputFits, StateFits, IsInput, IsState, IsTrace}
use Rattle.btor2.specs.Lists.{of_kind as leaves_of}
use Rattle.btor2.proofs.ModelLemmas.{IsIn, IsIn-from_find, find_item-in}
use Rattle.btor2.proofs.InitLemmas.{init_words_say}
use Rattle.blast.specs.Cost.{input_width, carried_width}
use Rattle.blast.specs.Leaves.{by_body, given_by_kind, leaf_bits, input_bits, state_bits}
use Rattle.btor2.specs.Reachability.{nodes_of, model_shows, CanRise}
use Rattle.btor2.proofs.TraceLemmas.{trace_length, trace_taken, trace_unique}
use Rattle.blast.proofs.NodeLemmas.{length-leaves}
use Rattle.witness.specs.declared.judgement.Judgement.TheVariants as judgement
use Rattle.witness.specs.Texts.{Shape, shape_of, has_free, Assignment, Parts, Witness, is_comment, assignment_line, states_lines, frame_lines, witness_lines, most_lines, Says}
use Rattle.witness.specs.Judgements.{words_of, initial_words, given_frames, differs, first_different, violation_from, unreached_from, verdict, JudgesWords}
use Rattle.witness.specs.BitTexts.{BitWitness}
use Rattle.witness.proofs.ShownLemmas.{is_1, sole_claim}
use Rattle.witness.proofs.OneJudgement.{shown_same as words_shown_same}
use Rattle.witness.proofs.FrameLemmas.{frame_agrees, bad_names, length-nodes}
use Rattle.witness.proofs.GivenWordLemmas.{SameAt}
use Rattle.witness.proofs.ShapeLemmas.{length-places}
use Rattle.lift.specs.Lifted.{names}
use Rattle.lift.proofs.AssignedLemmas.{any_leaf, takes_free, takes_carried, assign, assigned, assigned_inputs, assigned_carried, assigned_free, later_parts, later_frames, first_parts, lifted_frames, lifted_witness}
use Rattle.lift.proofs.LiftedWitness.{AreWide, lifted_is_witness}
use Rattle.lift.proofs.LiftedWords.{words_lifted, given_again, initial_again, initial_fits, given_fit}
use Rattle.reached.specs.Accepted.{IsAcceptedFor}
use Rattle.meaning.specs.Bound.{frame_bound}
use Rattle.reached.proofs.ShownLemmas.{cut, is_there}
use Rattle.meaning.proofs.BitAcceptLemmas.{some_taken, shown_taken}

-- ---- the same bits are the same words

first_split : {A : Type 0} (vs bs cs ds : List A) → length vs ≡ length bs → vs ++ cs ≡ bs ++ ds → (vs ≡ bs) × (cs ≡ ds)
first_split [] [] cs ds long e = (refl, e)
first_split [] (b ∷ bs) cs ds long e = absurd (omega (arith, long))
first_split (v ∷ vs) [] cs ds long e = absurd (omega (arith, long))
first_split (v ∷ vs) (b ∷ bs) cs ds long e =
    let rest = first_split vs bs cs ds (omega (arith, long)) (cc) in
    (ap₂ ◌∷◌ (cc) rest.0, rest.1)

same_many : (items : List Item) (f g : Frame) (x : Item) → length (leaf_bits items f x) ≡ length (leaf_bits items g x)
same_many items f g x = length-bits (bits_of items x.id) (f x.id) ∙ sym (length-bits (bits_of items x.id) (g x.id))

leaf_same : (items : List Item) (f g : Frame) (takes : Item → Bool) (before after : List Item) (y : Item) → takes y ≡ true
    → given_by_kind takes (leaf_bits items f) (before ++ y ∷ after) ≡ given_by_kind takes (leaf_bits items g) (before ++ y ∷ after) → leaf_bits items f y ≡ leaf_bits items g y
leaf_same items f g takes [] after y is e = by (takes y) is e
  where
    by : (b : Bool) → b ≡ true → (if b then leaf_bits items f y else []) ++ given_by_kind takes (leaf_bits items f) after ≡ (if b then leaf_bits items g y else []) ++ given_by_kind takes (leaf_bits items g) after
        → leaf_bits items f y ≡ leaf_bits items g y
    by true is e = (first_split (leaf_bits items f y) (leaf_bits items g y) (given_by_kind takes (leaf_bits items f) after) (given_by_kind takes (leaf_bits items g) after) (same_many items f g y) e).0
    by false is e = absurd (cc)
leaf_same items f g takes (x ∷ before) after y is e = leaf_same items f g takes before after y is (by (takes x) e)
  where
    by : (b : Bool) → (if b then leaf_bits items f x else []) ++ given_by_kind takes (leaf_bits items f) (before ++ y ∷ after) ≡ (if b then leaf_bits items g x else []) ++ given_by_kind takes (leaf_bits items g) (before ++ y ∷ after)
        → given_by_kind takes (leaf_bits items f) (before ++ y ∷ after) ≡ given_by_kind takes (leaf_bits items g) (before ++ y ∷ after)
    by true e = (first_split (leaf_bits items f x) (leaf_bits items g x) (given_by_kind takes (leaf_bits items f) (before ++ y ∷ after)) (given_by_kind takes (leaf_bits items g) (before ++ y ∷ after)) (same_many items f g x) e).1
    by false e = e

-- words of a leaf that fit
word_same : (items : List Item) (f g : Frame) (takes : Item → Bool) (y : Item) (at : IsIn items y) → takes y ≡ true → f y.id < 2 ^ bits_of items y.id → g y.id < 2 ^ bits_of items y.id
    → given_by_kind takes (leaf_bits items f) items ≡ given_by_kind takes (leaf_bits items g) items → f y.id ≡ g y.id
word_same items f g takes y at is h k e =
    let whole = subst (λ (l : List Item). given_by_kind takes (leaf_bits items f) l ≡ given_by_kind takes (leaf_bits items g) l) at.splits e in
    sym (word-bits (bits_of items y.id) (f y.id) h) ∙ ap word (leaf_same items f g takes at.before at.after y is whole) ∙ word-bits (bits_of items y.id) (g y.id) k

-- words that fit, at an item
state_below : (items : List Item) (s : Frame) (before after : List Item) (y : Item) → AllByRecursion (λ (x : Item). StateFits items s x.id x.body) (before ++ y ∷ after) → is_state y.body ≡ true → is_free items y.id ≡ false → s y.id < 2 ^ bits_of items y.id
state_below items s [] after y fits is carried = by y.body is fits.0
  where
    by : (b : Body) → is_state b ≡ true → StateFits items s y.id b → s y.id < 2 ^ bits_of items y.id
    by (body.State n) is h = h carried
    by _ is h = absurd (cc)
state_below items s (x ∷ before) after y fits is carried = state_below items s before after y fits.1 is carried

given_below : (items : List Item) (i : Frame) (before after : List Item) (y : Item) → AllByRecursion (λ (x : Item). InputFits items i x.id x.body) (before ++ y ∷ after) → ((is_input y.body || (is_state y.body && is_free items y.id)) ≡ true) → i y.id < 2 ^ bits_of items y.id
given_below items i [] after y fits is = by y.body is fits.0
  where
    by : (b : Body) → (is_input b || (is_state b && is_free items y.id)) ≡ true → InputFits items i y.id b → i y.id < 2 ^ bits_of items y.id
    by (body.Input n) is h = h
    by (body.State n) is h = h is
    by _ is h = absurd (cc)
given_below items i (x ∷ before) after y fits is = given_below items i before after y fits.1 is

-- ---- frames from the same bits

-- the same words are carried, and the same words are given
abbrev CarriedAgree : List Item → Frame → Frame → Type 0
CarriedAgree items s t = (id : ℕ) (y : Item) → find_item items id ≡ Some y → is_state y.body ≡ true → is_free items id ≡ false → s id ≡ t id

record GivenAgree (items : List Item) (i j : Frame) : Type 0 where
  inputs : SameAt is_input items i j
  free : (id : ℕ) (y : Item) → find_item items id ≡ Some y → is_state y.body ≡ true → is_free items id ≡ true → i id ≡ j id

carried_agree : (items : List Item) (s t : Frame) → IsState items s → IsState items t → state_bits items s ≡ state_bits items t → CarriedAgree items s t
carried_agree items s t fits others e id y found is carried =
    let at = IsIn-from_find items id y found in
    let own : is_free items y.id ≡ false = ap (is_free items) (sym at.1) ∙ carried in
    let takes : is_carried_state items y ≡ true = ap₂ (λ (b c : Bool). b && not c) is own in
    let below = state_below items s at.0.before at.0.after y (subst (AllByRecursion (λ (x : Item). StateFits items s x.id x.body)) at.0.splits fits) is own in
    let below_too = state_below items t at.0.before at.0.after y (subst (AllByRecursion (λ (x : Item). StateFits items t x.id x.body)) at.0.splits others) is own in
    ap s at.1 ∙ word_same items s t (is_carried_state items) y at.0 takes below below_too e ∙ sym (ap t at.1)

given_agree : (items : List Item) (i j : Frame) → IsInput items i → IsInput items j → input_bits items i ≡ input_bits items j → GivenAgree items i j
given_agree items i j fits others e =
    let long = length-leaves items (by_body is_input) i items ∙ sym (length-leaves items (by_body is_input) j items) in
    let parts = first_split (given_by_kind (by_body is_input) (leaf_bits items i) items) (given_by_kind (by_body is_input) (leaf_bits items j) items) (given_by_kind (is_free_state items) (leaf_bits items i) items) (given_by_kind (is_free_state items) (leaf_bits items j) items) long e in
    record {
      inputs = λ id y found is.
          let at = IsIn-from_find items id y found in
          let given : (is_input y.body || (is_state y.body && is_free items y.id)) ≡ true = ap (λ (b : Bool). b || (is_state y.body && is_free items y.id)) is in
          same (by_body is_input) id y at.0 at.1 is given parts.0;
      free = λ id y found is free.
          let at = IsIn-from_find items id y found in
          let own : is_free items y.id ≡ true = ap (is_free items) (sym at.1) ∙ free in
          let takes : is_free_state items y ≡ true = ap₂ (λ (b c : Bool). b && c) is own in
          same (is_free_state items) id y at.0 at.1 takes (or_true (is_input y.body) (is_state y.body && is_free items y.id) takes) parts.1;
    }
  where
    or_true : (b c : Bool) → c ≡ true → (b || c) ≡ true
    or_true true c h = refl
    or_true false c h = h

    same : (takes : Item → Bool) (id : ℕ) (y : Item) (at : IsIn items y) → id ≡ y.id → takes y ≡ true → (is_input y.body || (is_state y.body && is_free items y.id)) ≡ true
        → given_by_kind takes (leaf_bits items i) items ≡ given_by_kind takes (leaf_bits items j) items → i id ≡ j id
    same takes id y at named is given e =
        ap i named
        ∙ word_same items i j takes y at is (given_below items i at.before at.after y (subst (AllByRecursion (λ (x : Item). InputFits items i x.id x.body)) at.splits fits) given) (given_below items j at.before at.after y (subst (AllByRecursion (λ (x : Item). InputFits items j x.id x.body)) at.splits others) given) e
        ∙ sym (ap j named)

AllAgree : List Item → List Frame → List Frame → Type 0
AllAgree items [] [] = Unit {0}
AllAgree items [] (j ∷ js) = ⊥
AllAgree items (i ∷ is) [] = ⊥
AllAgree items (i ∷ is) (j ∷ js) = GivenAgree items i j × AllAgree items is js

all_agree : (items : List Item) (is js : List Frame) → AllByRecursion (IsInput items) is → AllByRecursion (IsInput items) js → map (input_bits items) is ≡ map (input_bits items) js → AllAgree items is js
unfolding AllAgree
all_agree items [] [] fits others e = tt
all_agree items [] (j ∷ js) fits others e = absurd (cc)
all_agree items (i ∷ is) [] fits others e = absurd (cc)
all_agree items (i ∷ is) (j ∷ js) fits others e = (given_agree items i j fits.0 others.0 (cc), all_agree items is js fits.1 others.1 (cc))

trace_agrees : (items : List Item) (s t : Frame) (is js fs : List Frame) → IsWellFormed items → CarriedAgree items s t → AllAgree items is js → IsTrace items s is fs → IsTrace items t js fs
unfolding AllAgree
trace_agrees items s t [] [] [] w carried given h = tt
trace_agrees items s t [] [] (f ∷ fs) w carried given h = absurd h
trace_agrees items s t [] (j ∷ js) fs w carried given h = absurd given
trace_agrees items s t (i ∷ is) [] fs w carried given h = absurd given
trace_agrees items s t (i ∷ is) (j ∷ js) [] w carried given h = absurd h
trace_agrees items s t (i ∷ is) (j ∷ js) (f ∷ fs) w carried given h = (
  frame_agrees items s t i j f w (λ id y found is. either (is_free items id) (given.0.free id y found is) (carried id y found is)) given.0.inputs h.0,
  trace_agrees items (next_state items f) (next_state items f) is js fs w (λ id y found is free. refl) given.1 h.1,
)
  where
    either : {x y v w : ℕ} (b : Bool) → (b ≡ true → x ≡ y) → (b ≡ false → v ≡ w) → (if b then x else v) ≡ (if b then y else w)
    either true h k = h refl
    either false h k = k refl

inputs_taken : (items : List Item) (is : List Frame) (n : ℕ) → AllByRecursion (IsInput items) is → AllByRecursion (IsInput items) (take n is)
inputs_taken items [] zero h = tt
inputs_taken items [] (suc n) h = tt
inputs_taken items (i ∷ is) zero h = tt
inputs_taken items (i ∷ is) (suc n) h = (h.0, inputs_taken items is n h.1)

-- ---- no initial word differs

none_different : (items : List Item) (s t : Frame) → IsWellFormed items → ((id k : ℕ) → init_word items id ≡ Some k → k ≡ s id) → CarriedAgree items s t → first_different items t ≡ None
none_different items s t well says agree = from 0 [] items refl
  where
    at_one : (id : ℕ) (o : Option ℕ) → init_word items id ≡ o → is_free items id ≡ false → s id ≡ t id → differs o (t id) ≡ false
    at_one id None e carried same = refl
    at_one id (Some k) e carried same = ap not (eq-eqb k (t id) (says id k e ∙ same))

    free_none : (o n : Option ℕ) (v : ℕ) → (is_none o && is_none n) ≡ true → differs (option_and_then (constant_of items) o) v ≡ false
    free_none None n v h = refl
    free_none (Some a) n v h = absurd (cc)

    own : (x : Item) → find_item items x.id ≡ Some x → is_state x.body ≡ true → (b : Bool) → is_free items x.id ≡ b → differs (init_word items x.id) (t x.id) ≡ false
    own x found is true free = free_none (init_value items x.id) (next_value items x.id) (t x.id) free
    own x found is false carried = at_one x.id (init_word items x.id) refl carried (agree x.id x found is carried)

    by : (n : ℕ) (xs : List Item) (x : Item) (b : Bool) → is_state x.body ≡ b → (is_state x.body ≡ true → differs (init_word items x.id) (t x.id) ≡ false)
        → ((m : ℕ) → position_from (λ (y : Item). differs (init_word items y.id) (t y.id)) m (leaves_of is_state xs) ≡ None)
        → position_from (λ (y : Item). differs (init_word items y.id) (t y.id)) n (cond b (x ∷ leaves_of is_state xs) (leaves_of is_state xs)) ≡ None
    by n xs x true is alike rest = ap (λ (b : Bool). cond b (Some n) (position_from (λ (y : Item). differs (init_word items y.id) (t y.id)) (n + 1) (leaves_of is_state xs))) (alike is) ∙ rest (n + 1)
    by n xs x false is alike rest = rest n

    from : (n : ℕ) (before rest : List Item) → items ≡ before ++ rest → position_from (λ (x : Item). differs (init_word items x.id) (t x.id)) n (leaves_of is_state rest) ≡ None
    from n before [] e = refl
    from n before (x ∷ xs) e =
        by n xs x (is_state x.body) refl (λ is. own x (find_item-in items x well (record { before = before; after = xs; splits = e })) is (is_free items x.id) refl)
        (λ m. from m (before ++ x ∷ []) xs (e ∙ sym (append_assoc before (x ∷ []) xs)))

-- ---- the claim is reached

-- ---- how many lines there are

one_many : (items : List Item) (takes : Item → Bool) (name : Item → Option (List ℕ)) (index : ℕ) (xs : List Item) (bs : List Bool) → length (assigned items takes name index xs bs) ≤ length xs
one_many items takes name index [] bs = omega arith
one_many items takes name index (x ∷ xs) bs = by (takes x) (λ cs. one_many items takes name (suc index) xs cs)
  where
    by : (b : Bool) → ((cs : List Bool) → length (assigned items takes name (suc index) xs cs) ≤ length xs)
        → length (if b then assign index (take (bits_of items x.id) bs) (name x) ∷ assigned items takes name (suc index) xs (drop (bits_of items x.id) bs) else assigned items takes name (suc index) xs bs) ≤ suc (length xs)
    by true rest = omega (arith, rest (drop (bits_of items x.id) bs))
    by false rest = omega (arith, rest bs)

-- each state is carried or free
both_many : (items : List Item) (name : Item → Option (List ℕ)) (index : ℕ) (xs : List Item) (bs cs : List Bool) → length (assigned items (takes_carried items) name index xs bs) + length (assigned items (takes_free items) name index xs cs) ≡ length xs
both_many items name index [] bs cs = refl
both_many items name index (x ∷ xs) bs cs = by (is_free items x.id) (λ bs cs. both_many items name (suc index) xs bs cs)
  where
    by : (b : Bool) → ((bs cs : List Bool) → length (assigned items (takes_carried items) name (suc index) xs bs) + length (assigned items (takes_free items) name (suc index) xs cs) ≡ length xs)
        → length (if not b then assign index (take (bits_of items x.id) bs) (name x) ∷ assigned items (takes_carried items) name (suc index) xs (drop (bits_of items x.id) bs) else assigned items (takes_carried items) name (suc index) xs bs)
        + length (if b then assign index (take (bits_of items x.id) cs) (name x) ∷ assigned items (takes_free items) name (suc index) xs (drop (bits_of items x.id) cs) else assigned items (takes_free items) name (suc index) xs cs) ≡ suc (length xs)
    by true rest = omega (arith, rest bs (drop (bits_of items x.id) cs))
    by false rest = omega (arith, rest (drop (bits_of items x.id) bs) cs)

states_many : (widths : List ℕ) (k n : ℕ) (o : Option (List Assignment)) → length (unwrap_or o []) ≤ n → length (states_lines widths k o) ≤ suc n
states_many widths k n None h = omega arith
states_many widths k n (Some list) h = omega (arith, h, length-map list (assignment_line widths))

-- the lines of one frame and of those behind it
frame_many : (shape : Shape) (k s i rest : ℕ) (parts : Parts) (more : List Parts) → length (unwrap_or parts.states []) ≤ s → length parts.inputs ≤ i → length (frame_lines shape (suc k) more) ≤ rest
    → length (frame_lines shape k (parts ∷ more)) ≤ rest + (s + i + 2)
frame_many shape k s i rest parts more hs hi hr =
    let states = states_many shape.states k s parts.states hs in
    let first = length-append (states_lines shape.states k parts.states) ((64 ∷ decimal k) ∷ (map (assignment_line shape.inputs) parts.inputs ++ frame_lines shape (suc k) more)) in
    let second = length-append (map (assignment_line shape.inputs) parts.inputs) (frame_lines shape (suc k) more) in
    let inputs = length-map parts.inputs (assignment_line shape.inputs) in
    omega (arith, hi, hr, states, first, second, inputs)

all_states : (items : List Item) → length (shape_of items).states ≡ length (leaves_of is_state items)
all_states items = length-map (leaves_of is_state items) (λ (x : Item). bits_of items x.id)

all_inputs : (items : List Item) → length (shape_of items).inputs ≡ length (leaves_of is_input items)
all_inputs items = length-map (leaves_of is_input items) (λ (x : Item). bits_of items x.id)

inputs_many : (items : List Item) (k : ℕ) (bs : List Bool) → length (assigned_inputs items (names false k) bs) ≤ length (shape_of items).inputs
inputs_many items k bs = omega (arith, all_inputs items, one_many items any_leaf (names false k) 0 (leaves_of is_input items) bs)

later_many : (items : List Item) (k : ℕ) (frames : List (List Bool)) → length (frame_lines (shape_of items) k (later_frames false items k frames)) ≤ length frames * frame_bound items
later_many items k [] = omega arith
later_many items k (bs ∷ more) =
    let own = frame_many (shape_of items) k (length (shape_of items).states) (length (shape_of items).inputs) (length more * frame_bound items) (later_parts false items k bs) (later_frames false items (suc k) more)
    (by (has_free (shape_of items))) (inputs_many items k bs) (later_many items (suc k) more) in
    subst (λ (n : ℕ). length (frame_lines (shape_of items) k (later_frames false items k (bs ∷ more))) ≤ n) (sym (suc-mul (length more) (frame_bound items))) own
  where
    by : (b : Bool) → length (unwrap_or (if b then Some (assigned_free items (names false k) (drop (input_width items) bs)) else None) []) ≤ length (shape_of items).states
    by true = omega (arith, all_states items, one_many items (takes_free items) (names false k) 0 (leaves_of is_state items) (drop (input_width items) bs))
    by false = omega arith

frames_many : (items : List Item) (initial : List Bool) (frames : List (List Bool)) → length (frame_lines (shape_of items) 0 (lifted_frames false items initial frames)) ≤ length frames * frame_bound items
frames_many items initial [] = omega arith
frames_many items initial (bs ∷ more) =
    let carried : List Assignment = assigned_carried items (names false 0) initial in
    let free : List Assignment = assigned_free items (names false 0) (drop (input_width items) bs) in
    let all = all_states items in
    let both = both_many items (names false 0) 0 (leaves_of is_state items) initial (drop (input_width items) bs) in
    let joined = length-append carried free in
    let own = frame_many (shape_of items) 0 (length (shape_of items).states) (length (shape_of items).inputs) (length more * frame_bound items) (first_parts false items initial bs) (later_frames false items 1 more)
    (omega (arith, all, both, joined)) (inputs_many items 0 bs) (later_many items 1 more) in
    subst (λ (n : ℕ). length (frame_lines (shape_of items) 0 (lifted_frames false items initial (bs ∷ more))) ≤ n) (sym (suc-mul (length more) (frame_bound items))) own

lines_many : (items : List Item) (b : BitWitness) → length (witness_lines (shape_of items) [] (lifted_witness false items b)) ≤ length b.frames * frame_bound items + 3
lines_many items b =
    let lines = length-append (frame_lines (shape_of items) 0 (lifted_frames false items b.initial b.frames)) (codes "." ∷ []) in
    let frames = frames_many items b.initial b.frames in
    omega (arith, lines, frames)

-- ---- the text

wide_inputs : (items : List Item) (is : List Frame) → AreWide items (map (input_bits items) is)
wide_inputs items [] = tt
wide_inputs items (f ∷ fs) = (
  length-append (given_by_kind (by_body is_input) (leaf_bits items f) items) (given_by_kind (is_free_state items) (leaf_bits items f) items) ∙ ap₂ ◌+◌ (length-leaves items (by_body is_input) f items) (length-leaves items (is_free_state items) f items),
  wide_inputs items fs,
)

some_mapped : {A B : Type 0} (f : A → B) (xs : List A) → xs ≢ [] → map f xs ≢ []
some_mapped f [] some e = some refl
some_mapped f (x ∷ xs) some e = absurd (cc)

-- the witness of the words of a trace, by their bits
abbrev bits_of_words : List Item → ℕ → Frame → List Frame → BitWitness
bits_of_words items k state is = record { claim = k; initial = state_bits items state; frames = map (input_bits items) is }

abbrev witness_for : List Item → ℕ → Frame → List Frame → Witness
witness_for items k state is = lifted_witness false items (bits_of_words items k state is)

initial_wide : (items : List Item) (state : Frame) → length (state_bits items state) ≡ carried_width items
initial_wide items state = length-leaves items (is_carried_state items) state items

says_words : (items : List Item) (k : ℕ) (state : Frame) (is : List Frame) → k < (shape_of items).bads → is ≢ [] → length is * frame_bound items + 3 ≤ most_lines
    → Says (shape_of items) (text_of_lines (witness_lines (shape_of items) [] (witness_for items k state is))) (witness_for items k state is)
says_words items k state is below some few =
    let lines = lines_many items (bits_of_words items k state is) in
    let as_many = ap (λ (m : ℕ). m * frame_bound items) (length-map is (input_bits items)) in
    record {
      comments = [];
      lines = All-nil IsLine;
      marked = All-nil (λ line. is_comment line ≡ true);
      whole = refl;
      valid = lifted_is_witness false items (bits_of_words items k state is) below (some_mapped (input_bits items) is some) (initial_wide items state) (wide_inputs items is);
      few = omega (arith, lines, as_many, few);
    }

-- the words that it gives are those of the trace
record Agrees (items : List Item) (k : ℕ) (state : Frame) (is : List Frame) : Type 0 where
  carried : CarriedAgree items state (initial_words items (words_of (witness_for items k state is)))
  given : AllAgree items is (given_frames items (words_of (witness_for items k state is)))

agrees : (items : List Item) (k : ℕ) (state : Frame) (is : List Frame) → IsWellFormed items → is ≢ [] → IsState items state → AllByRecursion (IsInput items) is → Agrees items k state is
agrees items k state is well some fits given =
    let b : BitWitness = bits_of_words items k state is in
    let some_bits : b.frames ≢ [] = some_mapped (input_bits items) is some in
    record {
      carried = carried_agree items state (initial_words items (words_lifted false items b)) fits (initial_fits false items b well some_bits) (sym (initial_again false items b well some_bits (initial_wide items state)));
      given = all_agree items is (given_frames items (words_lifted false items b)) given (given_fit false items b) (sym (given_again false items b well (wide_inputs items is)));
    }

pub accepted : (items : List Item) (k : ℕ) (h : CanRise items k) → IsWellFormed items → length h.frames * frame_bound items + 3 ≤ most_lines
    → (text : List ℕ) × (a : IsAcceptedFor items text k) × (a.frames ≤ length h.frames)
accepted items k h well few =
    let nodes : List ℕ = nodes_of is_bad items in
    let ends = cut k 0 (map (model_shows items) h.frames) h.rises in
    let n : ℕ = ends.count in
    let fs : List Frame = take n h.frames in
    let is : List Frame = take n h.inputs in
    let shown_same = shown_taken (model_shows items) n h.frames in
    let unbroken : violation_from 0 (map (model_shows items) fs) ≡ None = ap (violation_from 0) (sym shown_same) ∙ ends.unbroken in
    let rises : rises_in_some k (map (model_shows items) fs) ≡ true = ap (rises_in_some k) (sym shown_same) ∙ ends.rises in
    let within : k < length nodes = is_there (model_shows items) k (length nodes) (λ f. length-map nodes (is_1 f)) fs rises in
    let below : k < (shape_of items).bads = omega (arith, within, length-nodes is_bad items bad_names, length-places is_bad 0 items) in
    let long = trace_length items h.state h.inputs h.frames h.trace in
    let front : n ≤ length h.frames = omega (arith, ends.within, length-map h.frames (model_shows items)) in
    let enough : n ≤ length h.inputs = omega (arith, long, front) in
    let some : is ≢ [] = some_taken n h.inputs ends.some enough in
    let w : Witness = witness_for items k h.state is in
    let text : List ℕ = text_of_lines (witness_lines (shape_of items) [] w) in
    let fewer = mul-le (length is) (frame_bound items) (length h.frames) (frame_bound items) (omega (arith, length-take-le n h.inputs enough, front)) (omega arith) in
    let says = says_words items k h.state is below some (omega (arith, fewer, few)) in
    let same = agrees items k h.state is well some h.initial.fits (inputs_taken items h.inputs n h.given) in
    let trace = trace_agrees items h.state (initial_words items (words_of w)) is (given_frames items (words_of w)) fs well same.carried same.given (trace_taken items h.state h.inputs h.frames n h.trace) in
    let none = none_different items h.state (initial_words items (words_of w)) well (init_words_say items h.state h.initial.inits) same.carried in
    let reached : unreached_from (k ∷ []) (map (model_shows items) fs) 0 (length nodes) ≡ None = sole_claim k (length nodes) (map (model_shows items) fs) within ∙ ap (λ (b : Bool). cond b None (Some k)) rises in
    let good : verdict (first_different items (initial_words items (words_of w))) (k ∷ []) (length nodes) (map (model_shows items) fs) ≡ judgement.Accepted (length fs) =
    rw (none, unbroken, reached, length-map fs (model_shows items)) refl in
    let judged : JudgesWords items (words_of w) (judgement.Accepted (length fs)) = λ gs t.
    sym good
    ∙ ap (verdict (first_different items (initial_words items (words_of w))) (k ∷ []) (length nodes)) (words_shown_same items fs gs well (trace_unique items (initial_words items (words_of w)) (given_frames items (words_of w)) fs gs well trace t)) in
    let no_more : length fs ≤ length h.frames = omega (arith, length-take-le n h.frames front, front) in
    (text, record { frames = length fs; accepted = record { witness = w; says = says; judged = judged }; claims = Contains-get_or (k ∷ []) 0 0 (omega arith) }, no_more)
