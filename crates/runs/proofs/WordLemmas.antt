-- The words that a run's lists have for the items of a kind, and frames of them.
use Rattle.std.proofs.Common.{◌≡◌, ℕ, ◌^◌, ◌<◌, Bool, true, List, [], ◌∷◌, ◌++◌, length, map, get_or, Some, is_some, refl, sym, ap, subst, ◌∙◌, append_assoc, arith}
use Rattle.std.proofs.lemmas.List.{length-map, get_or-map, ext_get_or}
use Rattle.std.specs.List.{AllByRecursion}
use Rattle.btor2.specs.declared.item.Item.{Item}
use Rattle.btor2.specs.declared.item.Body.{Body}
use Rattle.btor2.specs.declared.item.Body.TheVariants as body
use Rattle.btor2.specs.Items.{find_item, node_width, is_input, is_state, is_free}
use Rattle.btor2.specs.Check.{IsWellFormed}
use Rattle.btor2.specs.Trace.{Frame, bits_of, LineHolds, IsFrame, StateFits, InputFits, IsState, IsInput}
use Rattle.btor2.proofs.ModelLemmas.{IsIn, find_item-in}
use Rattle.btor2.proofs.TraceLemmas.{words_fit_frame, frame_exists}
use Rattle.btor2.specs.Lists.{of_kind}
use Rattle.runs.specs.Frames.{has_value, is_leaf, ids_of, given_at, given_leaves}
use Rattle.runs.specs.Nodes.{slot, run_nodes, words_at, NodesFit, settled_values}
use Rattle.runs.specs.Holds.{LeavesFit, ConstantsStand, HoldsFrame}
use Rattle.runs.proofs.RankLemmas.{state_is_leaf, leaf_has_value, constant_has_value, nth, nth-found, length-ids, given-at, leaf_cases, state_leaf, input_leaf, either_word}
use Rattle.runs.proofs.SettleLemmas.{leaf_no_operator, constant_no_operator, Settles, line_at, settle_all}

-- the slots of the items of a kind
abbrev pub slots_of : (Body → Bool) → List Item → List ℕ
slots_of test items = map (slot items) (ids_of test items)

-- what two functions have alike for each item of a kind, they have for the list
pub ids_same : (test : Body → Bool) (items : List Item) (g h : ℕ → ℕ) → IsWellFormed items → ((id : ℕ) (y : Item) → find_item items id ≡ Some y → test y.body ≡ true → g id ≡ h id)
    → map g (ids_of test items) ≡ map h (ids_of test items)
ids_same test items g h w same =
    ext_get_or 0 (map g (ids_of test items)) (map h (ids_of test items)) (length-map (ids_of test items) g ∙ sym (length-map (ids_of test items) h))
    (λ k within.
    let inside : k < length (ids_of test items) = omega (arith, length-map (ids_of test items) g) in
    let there = nth test items k (omega (arith, length-ids test items)) in
    get_or-map g (ids_of test items) k 0 0 inside ∙ ap g there.1.id ∙ same there.0.id there.0 (nth-found test items k there.0 w there.1) there.1.is ∙ ap h (sym there.1.id)
    ∙ sym (get_or-map h (ids_of test items) k 0 0 inside))

-- the words at places that a list of numbers gives
pub words_at-map : (values : List ℕ) (g : ℕ → ℕ) (list : List ℕ) → words_at values (map g list) ≡ map (λ id. get_or values (g id) 0) list
words_at-map values g [] = refl
words_at-map values g (x ∷ xs) = ap (λ (l : List ℕ). get_or values (g x) 0 ∷ l) (words_at-map values g xs)

pub words_same : (test : Body → Bool) (items : List Item) (values : List ℕ) (h : ℕ → ℕ) → IsWellFormed items
    → ((id : ℕ) (y : Item) → find_item items id ≡ Some y → test y.body ≡ true → get_or values (slot items id) 0 ≡ h id) → words_at values (slots_of test items) ≡ map h (ids_of test items)
words_same test items values h w same = words_at-map values (slot items) (ids_of test items) ∙ ids_same test items (λ id. get_or values (slot items id) 0) h w same

-- The given words fit, where the leaves do.

state_fits : (items : List Item) (state : Frame) (id : ℕ) (b : Body) → (is_state b ≡ true → state id < 2 ^ bits_of items id) → StateFits items state id b
state_fits items state id (body.State s) h = λ carried. h refl
state_fits items state id _ h = tt

input_fits : (items : List Item) (input : Frame) (id : ℕ) (b : Body) → (is_leaf b ≡ true → input id < 2 ^ bits_of items id) → InputFits items input id b
input_fits items input id (body.Input s) h = h refl
input_fits items input id (body.State s) h = λ free. h refl
input_fits items input id _ h = tt

states_fit : (items : List Item) (state : Frame) (before rest : List Item) → items ≡ before ++ rest → ((y : Item) → IsIn items y → is_state y.body ≡ true → state y.id < 2 ^ bits_of items y.id) → AllByRecursion (λ (x : Item). StateFits items state x.id x.body) rest
states_fit items state before [] e h = tt
states_fit items state before (x ∷ xs) e h = (
  state_fits items state x.id x.body (h x (record { before = before; after = xs; splits = e })),
  states_fit items state (before ++ x ∷ []) xs (e ∙ sym (append_assoc before (x ∷ []) xs)) h,
)

inputs_fit : (items : List Item) (input : Frame) (before rest : List Item) → items ≡ before ++ rest → ((y : Item) → IsIn items y → is_leaf y.body ≡ true → input y.id < 2 ^ bits_of items y.id) → AllByRecursion (λ (x : Item). InputFits items input x.id x.body) rest
inputs_fit items input before [] e h = tt
inputs_fit items input before (x ∷ xs) e h = (
  input_fits items input x.id x.body (h x (record { before = before; after = xs; splits = e })),
  inputs_fit items input (before ++ x ∷ []) xs (e ∙ sym (append_assoc before (x ∷ []) xs)) h,
)

-- a leaf has in a frame the word that is given
leaf_word : (items : List Item) (state input f : Frame) (id word : ℕ) (b : Body) → is_leaf b ≡ true → LineHolds items state input f id b → (is_state b ≡ true → state id ≡ word) → (is_leaf b ≡ true → input id ≡ word)
    → word ≡ f id
leaf_word items state input f id word (body.State s) leaf h of_state of_input = sym (h ∙ either_word (is_free items id) (state id) (input id) word (of_state refl) (of_input refl))
leaf_word items state input f id word (body.Input s) leaf h of_state of_input = sym (h ∙ of_input refl)
leaf_word items state input f id word _ leaf h of_state of_input = absurd (cc)

module _ (items : List Item) (w : IsWellFormed items) (values : List ℕ) (many : length values ≡ length (of_kind has_value items)) (leaves : LeavesFit items values) where
  abbrev pub states_now : Frame
  states_now = given_at is_state items (words_at values (slots_of is_state items))

  abbrev pub inputs_now : Frame
  inputs_now = given_leaves items (words_at values (slots_of is_state items)) (words_at values (slots_of is_input items))

  -- the word that is given to a leaf is its now-value
  given_now : (id : ℕ) (y : Item) → find_item items id ≡ Some y → is_leaf y.body ≡ true → inputs_now id ≡ get_or values (slot items id) 0
  given_now id y found leaf =
      leaf_cases (inputs_now id ≡ get_or values (slot items id) 0) y.body leaf
      (λ is. state_leaf items _ _ id y found is ∙ given-at is_state items values id y found is)
      (λ is. input_leaf items _ _ id y found is ∙ given-at is_input items values id y found is)

  pub states_now-fit : IsState items states_now
  states_now-fit =
      states_fit items states_now [] items refl (λ y at is.
      let found = find_item-in items y w at in
      subst (λ (k : ℕ). k < 2 ^ bits_of items y.id) (sym (given-at is_state items values y.id y found is)) (leaves y.id y found (state_is_leaf y.body is)))

  pub inputs_now-fit : IsInput items inputs_now
  inputs_now-fit =
      inputs_fit items inputs_now [] items refl (λ y at is.
      let found = find_item-in items y w at in
      subst (λ (k : ℕ). k < 2 ^ bits_of items y.id) (sym (given_now y.id y found is)) (leaves y.id y found is))

  -- in the frame of them each leaf has its now-value
  leaf_now : (f : Frame) → IsFrame items states_now inputs_now f → (y : Item) → IsIn items y → is_leaf y.body ≡ true → get_or values (slot items y.id) 0 ≡ f y.id
  leaf_now f frame y at leaf =
      let found = find_item-in items y w at in
      leaf_word items states_now inputs_now f y.id (get_or values (slot items y.id) 0) y.body leaf
      (line_at items states_now inputs_now f at.before at.after y (subst (AllByRecursion (λ (x : Item). LineHolds items states_now inputs_now f x.id x.body)) at.splits frame))
      (given-at is_state items values y.id y found) (given_now y.id y found)

  -- in a frame of given words each node's word fits
  pub frame_fits : (f : Frame) → IsFrame items states_now inputs_now f → (id : ℕ) → is_some (node_width items id) ≡ true → f id < 2 ^ bits_of items id
  frame_fits f frame = words_fit_frame items states_now inputs_now f w states_now-fit inputs_now-fit frame

  module _ (constants : ConstantsStand items values) where
    settles : (f : Frame) → IsFrame items states_now inputs_now f → Settles items f (run_nodes items items) values
    settles f frame = settle_all items w states_now inputs_now f frame (frame_fits f frame) values (leaf_now f frame) constants many

    -- the pass over the nodes
    pub pass_fits : NodesFit (run_nodes items items) values
    pass_fits = let some = frame_exists items states_now inputs_now w in (settles some.0 some.1).fit

    abbrev pub after_pass : List ℕ
    after_pass = settled_values (run_nodes items items) values

    pub pass_many : length after_pass ≡ length values
    pass_many = let some = frame_exists items states_now inputs_now w in (settles some.0 some.1).many

    -- leaves and constants keep their words
    leaf_kept : (id : ℕ) (y : Item) → find_item items id ≡ Some y → is_leaf y.body ≡ true → get_or after_pass (slot items id) 0 ≡ get_or values (slot items id) 0
    leaf_kept id y found leaf = let some = frame_exists items states_now inputs_now w in (settles some.0 some.1).stays id y found (leaf_has_value y.body leaf) (leaf_no_operator items y.body leaf)

    pub pass_constants : ConstantsStand items after_pass
    pass_constants id y found is =
        let some = frame_exists items states_now inputs_now w in
        (settles some.0 some.1).stays id y found (constant_has_value y.body is) (constant_no_operator items y.body is) ∙ constants id y found is

    pub pass_words : (test : Body → Bool) → ((b : Body) → test b ≡ true → is_leaf b ≡ true) → words_at after_pass (slots_of test items) ≡ words_at values (slots_of test items)
    pass_words test leaf =
        words_same test items after_pass (λ id. get_or values (slot items id) 0) w (λ id y found is. leaf_kept id y found (leaf y.body is)) ∙ sym (words_at-map values (slot items) (ids_of test items))

    pub pass_leaves : LeavesFit items after_pass
    pass_leaves id y found leaf = subst (λ (k : ℕ). k < 2 ^ bits_of items id) (sym (leaf_kept id y found leaf)) (leaves id y found leaf)

    pub pass_frame : (f : Frame) → IsFrame items states_now inputs_now f → HoldsFrame items after_pass f
    pass_frame f frame = (settles f frame).holds
