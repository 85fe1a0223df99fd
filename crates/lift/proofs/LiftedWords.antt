-- The words of the lifted witness: they have the bits of its source, and fit their widths.
use Rattle.std.proofs.Common.{◌≡◌, ◌≢◌, ℕ, suc, ◌<◌, ◌^◌, ◌||◌, Bool, true, false, List, [], ◌∷◌, Option, Some, None, unwrap_or, map, length, take, drop, refl, sym, ap, ap₂, subst, ◌∙◌, true≢false}
use Rattle.std.specs.Prelude.{if◌then◌else◌}
use Rattle.std.specs.List.{list_any, AllByRecursion}
use Rattle.std.specs.Option.{option_or}
use Rattle.std.proofs.lemmas.Bool.{not-true}
use Rattle.btor2.specs.declared.item.Item.{Item}
use Rattle.btor2.specs.Items.{is_input, is_state, is_free, names_state, init_word, is_free_state, is_carried_state}
use Rattle.btor2.specs.Check.{IsWellFormed}
use Rattle.btor2.specs.Trace.{bits_of, IsState, IsInput}
use Rattle.btor2.specs.Lists.{of_kind as leaves_of}
use Rattle.btor2.proofs.InitLemmas.{init_word_below, fitting_inputs, fitting_states}
use Rattle.blast.specs.Cost.{input_width, given_width, carried_width}
use Rattle.blast.specs.Leaves.{input_bits, state_bits, by_body}
use Rattle.blast.proofs.LeafWords.{word_for, word_fits, word_test, Has, Below, below_or_0, input_named, free_named, state_bits_are, input_bits_are}
use Rattle.witness.specs.Texts.{shape_of, has_free}
use Rattle.witness.specs.Judgements.{FrameWords, Words, index_of, pairs_of, frame_words, words_of, given_to, initial_part, initial_words, given_words, given_frames}
use Rattle.witness.specs.BitTexts.{BitWitness}
use Rattle.lift.specs.Lifted.{names}
use Rattle.lift.proofs.AssignedLemmas.{assign, assigned, any_leaf, takes_free, takes_carried, assigned_inputs, assigned_carried, assigned_free, first_parts, later_parts, later_frames, lifted_frames, lifted_witness}
use Rattle.lift.proofs.LiftedWitness.{and_any, AreWide}
use Rattle.lift.proofs.GivenWords.{word_among, looked_up, both_given}

-- ---- which leaf has an id

each_takes : (takes : Item → Bool) (p : ℕ → Bool) (b : Bool) → ((x : Item) → takes x ≡ true → p x.id ≡ b) → (xs : List Item) → AllByRecursion (λ (x : Item). takes x ≡ true → p x.id ≡ b) xs
each_takes takes p b h [] = tt
each_takes takes p b h (x ∷ xs) = (h x, each_takes takes p b h xs)

-- a free state has no word among the carried
free_is_not_carried : (items : List Item) (initial bs : List Bool) (id v : ℕ) → word_for items (takes_free items) (leaves_of is_state items) bs id ≡ Some v → word_for items (takes_carried items) (leaves_of is_state items) initial id ≡ None
free_is_not_carried items initial bs id v e = by (word_for items (takes_carried items) (leaves_of is_state items) initial id) refl
  where
    free : is_free items id ≡ true
    free = word_test items (takes_free items) (is_free items) true (leaves_of is_state items) (each_takes (takes_free items) (is_free items) true (λ x h. h) (leaves_of is_state items)) bs id v e

    by : (o : Option ℕ) → word_for items (takes_carried items) (leaves_of is_state items) initial id ≡ o → o ≡ None
    by None h = refl
    by (Some u) h =
        let carried : is_free items id ≡ false = word_test items (takes_carried items) (is_free items) false (leaves_of is_state items) (each_takes (takes_carried items) (is_free items) false (λ x h. not-true (is_free items x.id) h) (leaves_of is_state items)) initial id u h in
        absurd (true≢false (sym free ∙ carried))

-- ---- the first frame

first_given : (named : Bool) (items : List Item) (initial bs : List Bool) (id : ℕ) → given_to is_state items (frame_words (first_parts named items initial bs)).states id
    ≡ option_or (word_for items (takes_carried items) (leaves_of is_state items) initial id) (word_for items (takes_free items) (leaves_of is_state items) (drop (input_width items) bs) id)
first_given named items initial bs id =
    both_given (assigned_carried items (names named 0) initial) (assigned_free items (names named 0) (drop (input_width items) bs)) (index_of is_state items id)
    ∙ ap₂ option_or (looked_up items (takes_carried items) (names named 0) id 0 (leaves_of is_state items) initial) (looked_up items (takes_free items) (names named 0) id 0 (leaves_of is_state items) (drop (input_width items) bs))

inputs_given : (items : List Item) (name : Item → Option (List ℕ)) (bs : List Bool) (id : ℕ) → given_to is_input items (pairs_of (assigned_inputs items name bs)) id ≡ word_for items any_leaf (leaves_of is_input items) bs id
inputs_given items name bs id = looked_up items any_leaf name id 0 (leaves_of is_input items) bs

-- a frame's words where they are given by its parts
given_input : (items : List Item) (name : Item → Option (List ℕ)) (parts : FrameWords) (bs : List Bool) → IsWellFormed items → parts.inputs ≡ pairs_of (assigned_inputs items name bs) → Has items (by_body is_input) bs (given_words items parts)
given_input items name parts bs w is id v e =
    ap (λ (b : Bool). unwrap_or (if b then given_to is_state items parts.states id else given_to is_input items parts.inputs id) 0) (input_named items bs id v w e)
    ∙ ap (λ (l : List (ℕ × ℕ)). unwrap_or (given_to is_input items l id) 0) is
    ∙ ap (λ (o : Option ℕ). unwrap_or o 0) (inputs_given items name bs id ∙ word_among items is_input any_leaf (by_body is_input) (λ x. and_any (is_input x.body)) items bs id v e)

given_state : (items : List Item) (parts : FrameWords) (bs : List Bool) → IsWellFormed items
    → ((id v : ℕ) → word_for items (takes_free items) (leaves_of is_state items) bs id ≡ Some v → given_to is_state items parts.states id ≡ Some v) → Has items (is_free_state items) bs (given_words items parts)
given_state items parts bs w says id v e =
    ap (λ (b : Bool). unwrap_or (if b then given_to is_state items parts.states id else given_to is_input items parts.inputs id) 0) (free_named items bs id v w e) ∙ ap (λ (o : Option ℕ). unwrap_or o 0) (says id v (word_among items is_state (takes_free items) (is_free_state items) (λ x. refl) items bs id v e))

first_has_free : (named : Bool) (items : List Item) (initial bs : List Bool) (id v : ℕ) → word_for items (takes_free items) (leaves_of is_state items) (drop (input_width items) bs) id ≡ Some v
    → given_to is_state items (frame_words (first_parts named items initial bs)).states id ≡ Some v
first_has_free named items initial bs id v e =
    first_given named items initial bs id ∙ ap₂ option_or (free_is_not_carried items initial (drop (input_width items) bs) id v e) e

first_bits : (named : Bool) (items : List Item) (initial bs : List Bool) → IsWellFormed items → length bs ≡ given_width items → input_bits items (given_words items (frame_words (first_parts named items initial bs))) ≡ bs
first_bits named items initial bs w long =
    input_bits_are items (given_words items (frame_words (first_parts named items initial bs))) bs w long (given_input items (names named 0) (frame_words (first_parts named items initial bs)) bs w refl)
    (given_state items (frame_words (first_parts named items initial bs)) (drop (input_width items) bs) w (first_has_free named items initial bs))

-- ---- a later frame

none_free : (items : List Item) (name : Item → Option (List ℕ)) (index : ℕ) (xs : List Item) (bs : List Bool) → list_any (λ b. b) (map (λ (x : Item). is_free items x.id) xs) ≡ false → assigned items (takes_free items) name index xs bs ≡ []
none_free items name index [] bs h = refl
none_free items name index (x ∷ xs) bs h = by (is_free items x.id) h (λ e. none_free items name (suc index) xs bs e)
  where
    by : (b : Bool) → (b || list_any (λ b. b) (map (λ (x : Item). is_free items x.id) xs)) ≡ false → (list_any (λ b. b) (map (λ (x : Item). is_free items x.id) xs) ≡ false → assigned items (takes_free items) name (suc index) xs bs ≡ [])
        → (if b then assign index (take (bits_of items x.id) bs) (name x) ∷ assigned items (takes_free items) name (suc index) xs (drop (bits_of items x.id) bs) else assigned items (takes_free items) name (suc index) xs bs) ≡ []
    by true e rest = absurd (true≢false e)
    by false e rest = rest e

later_pairs : (named : Bool) (k : ℕ) (items : List Item) (bs : List Bool) → (frame_words (later_parts named items k bs)).states ≡ pairs_of (assigned_free items (names named k) (drop (input_width items) bs))
later_pairs named k items bs = by (has_free (shape_of items)) refl
  where
    by : (b : Bool) → has_free (shape_of items) ≡ b → pairs_of (unwrap_or (if b then Some (assigned_free items (names named k) (drop (input_width items) bs)) else None) []) ≡ pairs_of (assigned_free items (names named k) (drop (input_width items) bs))
    by true e = refl
    by false e = ap pairs_of (sym (none_free items (names named k) 0 (leaves_of is_state items) (drop (input_width items) bs) e))

later_given : (named : Bool) (k : ℕ) (items : List Item) (bs : List Bool) (id : ℕ) → given_to is_state items (frame_words (later_parts named items k bs)).states id ≡ word_for items (takes_free items) (leaves_of is_state items) (drop (input_width items) bs) id
later_given named k items bs id =
    ap (λ (l : List (ℕ × ℕ)). given_to is_state items l id) (later_pairs named k items bs) ∙ looked_up items (takes_free items) (names named k) id 0 (leaves_of is_state items) (drop (input_width items) bs)

later_bits : (named : Bool) (k : ℕ) (items : List Item) (bs : List Bool) → IsWellFormed items → length bs ≡ given_width items → input_bits items (given_words items (frame_words (later_parts named items k bs))) ≡ bs
later_bits named k items bs w long =
    input_bits_are items (given_words items (frame_words (later_parts named items k bs))) bs w long (given_input items (names named k) (frame_words (later_parts named items k bs)) bs w refl)
    (given_state items (frame_words (later_parts named items k bs)) (drop (input_width items) bs) w (λ id v e. later_given named k items bs id ∙ e))

-- ---- all frames

all_later_bits : (named : Bool) (k : ℕ) (items : List Item) (frames : List (List Bool)) → IsWellFormed items → AreWide items frames → map (input_bits items) (map (given_words items) (map frame_words (later_frames named items k frames))) ≡ frames
all_later_bits named k items [] w h = refl
all_later_bits named k items (bs ∷ more) w h = ap₂ ◌∷◌ (later_bits named k items bs w h.0) (all_later_bits named (suc k) items more w h.1)

abbrev pub words_lifted : Bool → List Item → BitWitness → Words
words_lifted named items b = words_of (lifted_witness named items b)

frames_again : (named : Bool) (items : List Item) (initial : List Bool) (frames : List (List Bool)) → IsWellFormed items → AreWide items frames → map (input_bits items) (map (given_words items) (map frame_words (lifted_frames named items initial frames))) ≡ frames
frames_again named items initial [] w h = refl
frames_again named items initial (bs ∷ more) w h = ap₂ ◌∷◌ (first_bits named items initial bs w h.0) (all_later_bits named 1 items more w h.1)

pub given_again : (named : Bool) (items : List Item) (b : BitWitness) → IsWellFormed items → AreWide items b.frames → map (input_bits items) (given_frames items (words_lifted named items b)) ≡ b.frames
given_again named items b w h = frames_again named items b.initial b.frames w h

pub initial_again : (named : Bool) (items : List Item) (b : BitWitness) → IsWellFormed items → b.frames ≢ [] → length b.initial ≡ carried_width items → state_bits items (initial_words items (words_lifted named items b)) ≡ b.initial
initial_again named items b w some long =
    state_bits_are items (initial_words items (words_lifted named items b)) b.initial w long (λ id v e. by b.frames some id v (word_among items is_state (takes_carried items) (is_carried_state items) (λ x. refl) items b.initial id v e))
  where
    by : (frames : List (List Bool)) → frames ≢ [] → (id v : ℕ) → word_for items (takes_carried items) (leaves_of is_state items) b.initial id ≡ Some v
        → unwrap_or (option_or (given_to is_state items (initial_part (map frame_words (lifted_frames named items b.initial frames))) id) (init_word items id)) 0 ≡ v
    by [] some id v e = absurd (some refl)
    by (bs ∷ more) some id v e =
        ap (λ (o : Option ℕ). unwrap_or (option_or o (init_word items id)) 0)
        (first_given named items b.initial bs id ∙ ap (λ (o : Option ℕ). option_or o (word_for items (takes_free items) (leaves_of is_state items) (drop (input_width items) bs) id)) e)

-- ---- the words fit

below_either : (n : ℕ) (o p : Option ℕ) → Below n o → Below n p → Below n (option_or o p)
below_either n None p h k = k
below_either n (Some v) p h k = h

below_same : (n : ℕ) (o p : Option ℕ) → o ≡ p → Below n p → Below n o
below_same n o p e h = subst (Below n) (sym e) h

below_constant : (items : List Item) (id : ℕ) → IsWellFormed items → Below (bits_of items id) (init_word items id)
below_constant items id w c e = init_word_below items id c w e

first_below : (named : Bool) (items : List Item) (initial bs : List Bool) (id : ℕ) → Below (bits_of items id) (given_to is_state items (frame_words (first_parts named items initial bs)).states id)
first_below named items initial bs id =
    below_same (bits_of items id) (given_to is_state items (frame_words (first_parts named items initial bs)).states id) (option_or (word_for items (takes_carried items) (leaves_of is_state items) initial id) (word_for items (takes_free items) (leaves_of is_state items) (drop (input_width items) bs) id)) (first_given named items initial bs id)
    (below_either (bits_of items id) (word_for items (takes_carried items) (leaves_of is_state items) initial id) (word_for items (takes_free items) (leaves_of is_state items) (drop (input_width items) bs) id)
    (word_fits items (takes_carried items) (leaves_of is_state items) initial id) (word_fits items (takes_free items) (leaves_of is_state items) (drop (input_width items) bs) id))

pub initial_below : (named : Bool) (items : List Item) (b : BitWitness) (id : ℕ) → IsWellFormed items → b.frames ≢ [] → initial_words items (words_lifted named items b) id < 2 ^ bits_of items id
initial_below named items b id w some = by b.frames some
  where
    by : (frames : List (List Bool)) → frames ≢ [] → unwrap_or (option_or (given_to is_state items (initial_part (map frame_words (lifted_frames named items b.initial frames))) id) (init_word items id)) 0 < 2 ^ bits_of items id
    by [] some = absurd (some refl)
    by (bs ∷ more) some =
        let first : Option ℕ = given_to is_state items (frame_words (first_parts named items b.initial bs)).states id in
        below_or_0 (bits_of items id) (option_or first (init_word items id)) (below_either (bits_of items id) first (init_word items id) (first_below named items b.initial bs id) (below_constant items id w))

words_below : (items : List Item) (name : Item → Option (List ℕ)) (parts : FrameWords) (bs : List Bool) (id : ℕ) → parts.inputs ≡ pairs_of (assigned_inputs items name bs) → Below (bits_of items id) (given_to is_state items parts.states id) → given_words items parts id < 2 ^ bits_of items id
words_below items name parts bs id is h = by (names_state items id)
  where
    inputs : Below (bits_of items id) (given_to is_input items parts.inputs id)
    inputs = below_same (bits_of items id) (given_to is_input items parts.inputs id) (word_for items any_leaf (leaves_of is_input items) bs id) (ap (λ (l : List (ℕ × ℕ)). given_to is_input items l id) is ∙ inputs_given items name bs id) (word_fits items any_leaf (leaves_of is_input items) bs id)

    by : (b : Bool) → unwrap_or (if b then given_to is_state items parts.states id else given_to is_input items parts.inputs id) 0 < 2 ^ bits_of items id
    by true = below_or_0 (bits_of items id) (given_to is_state items parts.states id) h
    by false = below_or_0 (bits_of items id) (given_to is_input items parts.inputs id) inputs

pub initial_fits : (named : Bool) (items : List Item) (b : BitWitness) → IsWellFormed items → b.frames ≢ [] → IsState items (initial_words items (words_lifted named items b))
initial_fits named items b w some = fitting_states items (initial_words items (words_lifted named items b)) (λ id. initial_below named items b id w some) items

later_fit : (named : Bool) (k : ℕ) (items : List Item) (frames : List (List Bool)) → AllByRecursion (IsInput items) (map (given_words items) (map frame_words (later_frames named items k frames)))
later_fit named k items [] = tt
later_fit named k items (bs ∷ more) = (
  fitting_inputs items (given_words items (frame_words (later_parts named items k bs)))
      (λ id. words_below items (names named k) (frame_words (later_parts named items k bs)) bs id refl (below_same (bits_of items id) (given_to is_state items (frame_words (later_parts named items k bs)).states id) (word_for items (takes_free items) (leaves_of is_state items) (drop (input_width items) bs) id) (later_given named k items bs id)
      (word_fits items (takes_free items) (leaves_of is_state items) (drop (input_width items) bs) id))) items,
  later_fit named (suc k) items more,
)

frames_fit : (named : Bool) (items : List Item) (initial : List Bool) (frames : List (List Bool)) → AllByRecursion (IsInput items) (map (given_words items) (map frame_words (lifted_frames named items initial frames)))
frames_fit named items initial [] = tt
frames_fit named items initial (bs ∷ more) =
    (fitting_inputs items (given_words items (frame_words (first_parts named items initial bs))) (λ id. words_below items (names named 0) (frame_words (first_parts named items initial bs)) bs id refl (first_below named items initial bs id)) items, later_fit named 1 items more)

pub given_fit : (named : Bool) (items : List Item) (b : BitWitness) → AllByRecursion (IsInput items) (given_frames items (words_lifted named items b))
given_fit named items b = frames_fit named items b.initial b.frames
