-- Advancing: the states take the words of their next nodes, and the inputs 0.
use Rattle.std.proofs.Common.{◌≡◌, ◌≢◌, ℕ, ◌^◌, ◌<◌, Bool, true, false, List, length, map, get_or, All, Option, Some, None, is_some, option_map, unwrap_or, refl, sym, ap, subst, ◌∙◌, pow_pos, arith}
use Rattle.std.proofs.lemmas.List.{length-map, get_or-map}
use Rattle.std.proofs.lemmas.List.Elements.{All-from_get_or}
use Rattle.btor2.specs.declared.item.Item.{Item}
use Rattle.btor2.specs.declared.item.Body.{Body}
use Rattle.btor2.specs.Items.{find_item, node_width, is_input, is_state, next_value}
use Rattle.btor2.specs.Check.{IsWellFormed}
use Rattle.btor2.specs.Trace.{Frame, bits_of, IsFrame, next_state}
use Rattle.btor2.proofs.AppendLemmas.{is_some_from}
use Rattle.btor2.proofs.ModelLemmas.{IsNextOf-from_value}
use Rattle.btor2.proofs.TraceLemmas.{frame_exists}
use Rattle.runs.specs.declared.nodes.Node.{Node}
use Rattle.btor2.specs.Lists.{of_kind}
use Rattle.runs.specs.Frames.{has_value, is_leaf, is_constant, ids_of, kind_rank, given_at, given_leaves}
use Rattle.runs.specs.Run.{zeros}
use Rattle.runs.specs.Nodes.{slot, words_at, word_where, IsInside}
use Rattle.runs.specs.Holds.{next_slot, LeavesFit, ConstantsStand, HoldsFrame, Keeps}
use Rattle.runs.proofs.RankLemmas.{state_is_leaf, input_is_leaf, rank-below, ids-rank, constant_apart, length-ids, leaf_cases}
use Rattle.runs.proofs.NodeLemmas.{node_found}
use Rattle.runs.proofs.WordLemmas.{slots_of, words_same, frame_fits}
use Rattle.runs.proofs.InvariantLemmas.{leaf-nth, slot-nth, slots-once, slots-apart, length-slots_of, other_values}

-- the place of an item of a kind among its slots
pub slot-own : (test : Body → Bool) (items : List Item) (id : ℕ) (y : Item) → find_item items id ≡ Some y → test y.body ≡ true
    → (kind_rank test items id < length (slots_of test items)) × (get_or (slots_of test items) (kind_rank test items id) 0 ≡ slot items id)
slot-own test items id y found is =
    let inside : kind_rank test items id < length (ids_of test items) = omega (arith, rank-below test items id y found is, length-ids test items) in
    (omega (arith, length-slots_of test items), slot-nth test items (kind_rank test items id) inside ∙ ap (slot items) (ids-rank test items id y found is))

-- slots are places of now-values
pub slots-inside : (test : Body → Bool) (items : List Item) (n : ℕ) → IsWellFormed items → ((b : Body) → test b ≡ true → is_leaf b ≡ true) → n ≡ length (of_kind has_value items) → All (λ p. p < n) (slots_of test items)
slots-inside test items n w leaf e =
    All-from_get_or (λ p. p < n) (slots_of test items) 0 (λ k h.
    let there : k < length (ids_of test items) = omega (arith, length-slots_of test items) in
    omega (arith, slot-nth test items k there, (leaf-nth test items k w leaf there).inside))

pub slots-differ : (test : Body → Bool) (items : List Item) → IsWellFormed items → ((b : Body) → test b ≡ true → is_leaf b ≡ true) → (j k : ℕ) → j < k → k < length (slots_of test items)
    → get_or (slots_of test items) j 0 ≢ get_or (slots_of test items) k 0
slots-differ test items w leaf j k less h e =
    let there : k < length (ids_of test items) = omega (arith, length-slots_of test items) in
    let same = slots-once test items j k w leaf (omega arith) there e in
    omega (arith, same)

-- no slot of a leaf is that of a constant
pub leaf_apart : (test : Body → Bool) (items : List Item) (list : List ℕ) (id j : ℕ) (y : Item) → IsWellFormed items → ((b : Body) → test b ≡ true → is_leaf b ≡ true) → list ≡ slots_of test items
    → find_item items id ≡ Some y → is_constant y.body ≡ true → j < length list → get_or list j 0 ≢ slot items id
leaf_apart test items list id j y w leaf own found is h e =
    let inside : j < length (ids_of test items) = omega (arith, ap length own, length-slots_of test items) in
    let at = leaf-nth test items j w leaf inside in
    constant_apart items id (get_or (ids_of test items) j 0) y at.item found is at.found (leaf at.item.body at.is) (sym e ∙ ap (λ (l : List ℕ). get_or l j 0) own ∙ slot-nth test items j inside)

-- the word of a state's next node in a frame
record NextWord (items : List Item) (f : Frame) (id value : ℕ) : Type 0 where
  pub item : Item
  pub found : find_item items value ≡ Some item
  pub has : has_value item.body ≡ true
  pub bits : bits_of items value ≡ bits_of items id
  pub there : is_some (node_width items value) ≡ true

next_word : (items : List Item) (f : Frame) (id value : ℕ) → IsWellFormed items → next_value items id ≡ Some value → NextWord items f id value
next_word items f id value w e =
    let line = IsNextOf-from_value items id value w e in
    let node = node_found items value line.width line.of_value in
    record {
      item = node.0;
      found = node.1;
      has = node.2;
      bits = ap (λ (o : Option ℕ). unwrap_or o 0) (line.of_value ∙ sym line.of_state);
      there = is_some_from (node_width items value) line.width line.of_value;
    }

-- the slot of a next node is a place of now-values, and its word in a frame is what the state has next
next_slot-inside : (items : List Item) (n id : ℕ) → IsWellFormed items → n ≡ length (of_kind has_value items) → IsInside n (next_slot items id)
next_slot-inside items n id w many = by (next_value items id) refl
  where
    by : (o : Option ℕ) → next_value items id ≡ o → IsInside n (option_map (slot items) o)
    by None e = tt
    by (Some v) e = let next = next_word items (λ i. 0) id v w e in omega (arith, rank-below has_value items v next.item next.found next.has)

next_slot-word : (items : List Item) (values : List ℕ) (f : Frame) (id : ℕ) → IsWellFormed items → HoldsFrame items values f → word_where values (next_slot items id) ≡ next_state items f id
next_slot-word items values f id w holds = by (next_value items id) refl
  where
    by : (o : Option ℕ) → next_value items id ≡ o → word_where values (option_map (slot items) o) ≡ unwrap_or (option_map f o) 0
    by None e = refl
    by (Some v) e = let next = next_word items f id v w e in holds v next.item next.found next.has

next_state-fits : (items : List Item) (f : Frame) (id : ℕ) → IsWellFormed items → ((v : ℕ) → is_some (node_width items v) ≡ true → f v < 2 ^ bits_of items v) → next_state items f id < 2 ^ bits_of items id
next_state-fits items f id w fits = by (next_value items id) refl
  where
    by : (o : Option ℕ) → next_value items id ≡ o → unwrap_or (option_map f o) 0 < 2 ^ bits_of items id
    by None e = pow_pos (bits_of items id)
    by (Some v) e = let next = next_word items f id v w e in subst (λ (n : ℕ). f v < 2 ^ n) next.bits (fits v next.there)

pub record AfterAdvance (items : List Item) (nodes : List Node) (slots states inputs : List ℕ) (nexts : List (Option ℕ)) (bads constraints values next_values values' : List ℕ) : Type 0 where
  pub keeps : Keeps items nodes slots states inputs nexts bads constraints values' next_values false
  pub next_words : (f : Frame) → IsFrame items (given_at is_state items (words_at values states)) (given_leaves items (words_at values states) (words_at values inputs)) f → words_at values' states ≡ map (next_state items f) (ids_of is_state items)
  pub no_inputs : words_at values' inputs ≡ zeros items

module _ (items : List Item) (nodes : List Node) (slots states inputs : List ℕ) (nexts : List (Option ℕ)) (bads constraints values next_values : List ℕ) (settled : Bool) (k : Keeps items nodes slots states inputs nexts bads constraints values next_values settled)
  where
    pub nexts_inside : All (IsInside (length values)) nexts
    nexts_inside =
        rw k.are_nexts (All-from_get_or (IsInside (length values)) (map (next_slot items) (ids_of is_state items)) None (λ j h.
        let there : j < length (ids_of is_state items) = omega (arith, length-map (ids_of is_state items) (next_slot items)) in
        let id = get_or (ids_of is_state items) j 0 in
        subst (IsInside (length values)) (sym (get_or-map (next_slot items) (ids_of is_state items) j 0 None there)) (next_slot-inside items (length values) id k.well_formed k.many_nodes)))

    pub nexts_many : length next_values ≡ length nexts
    nexts_many = k.many_states ∙ sym (ap length k.are_nexts ∙ length-map (ids_of is_state items) (next_slot items) ∙ length-ids is_state items)

    pub nexts_count : length nexts ≡ length (of_kind is_state items)
    nexts_count = ap length k.are_nexts ∙ length-map (ids_of is_state items) (next_slot items) ∙ length-ids is_state items

    pub states_many : length nexts ≡ length states
    states_many = nexts_count ∙ sym (ap length k.are_states ∙ length-slots_of is_state items ∙ length-ids is_state items)

    pub states_inside : All (λ p. p < length values) states
    states_inside = rw k.are_states (slots-inside is_state items (length values) k.well_formed state_is_leaf k.many_nodes)

    pub states_differ : (i j : ℕ) → i < j → j < length states → get_or states i 0 ≢ get_or states j 0
    states_differ = rw k.are_states (slots-differ is_state items k.well_formed state_is_leaf)

    pub inputs_inside : All (λ p. p < length values) inputs
    inputs_inside = rw k.are_inputs (slots-inside is_input items (length values) k.well_formed input_is_leaf k.many_nodes)

    -- what no slot of a state or an input is, the passes leave
    module _ (done : settled ≡ true) (taken put cleared : List ℕ) (take : taken ≡ map (word_where values) nexts) (put_words : words_at put states ≡ taken)
        (put_others : (p : ℕ) → ((j : ℕ) → j < length states → get_or states j 0 ≢ p) → get_or put p 0 ≡ get_or values p 0)
        (clear_words : (j : ℕ) → j < length inputs → get_or cleared (get_or inputs j 0) 0 ≡ 0) (clear_others : (p : ℕ) → ((j : ℕ) → j < length inputs → get_or inputs j 0 ≢ p) → get_or cleared p 0 ≡ get_or put p 0)
        (many : length cleared ≡ length values) (many_next : length taken ≡ length next_values) where
      -- a state's word after the passes is that of its next node before
      state_moved : (id : ℕ) (y : Item) → find_item items id ≡ Some y → is_state y.body ≡ true → get_or cleared (slot items id) 0 ≡ word_where values (next_slot items id)
      state_moved id y found is =
          let at = slot-own is_state items id y found is in
          let r = kind_rank is_state items id in
          let own : get_or states r 0 ≡ slot items id = ap (λ (l : List ℕ). get_or l r 0) k.are_states ∙ at.1 in
          let inside : r < length states = omega (arith, at.0, ap length k.are_states) in
          let there : r < length (ids_of is_state items) = omega (arith, at.0, length-slots_of is_state items) in
          let apart : (j : ℕ) → j < length inputs → get_or inputs j 0 ≢ slot items id = λ j l e.
          slots-apart items r j k.well_formed there (omega (arith, ap length k.are_inputs, length-slots_of is_input items)) (at.1 ∙ sym e ∙ ap (λ (l : List ℕ). get_or l j 0) k.are_inputs) in
          let moved : words_at put states ≡ map (word_where values) nexts = put_words ∙ take in
          let nexts_inside : r < length nexts = omega (arith, states_many) in
          clear_others (slot items id) apart ∙ ap (λ (p : ℕ). get_or put p 0) (sym own) ∙ sym (get_or-map (λ (p : ℕ). get_or put p 0) states r 0 0 inside)
          ∙ ap (λ (l : List ℕ). get_or l r 0) moved ∙ get_or-map (word_where values) nexts r None 0 nexts_inside
          ∙ ap (λ (l : List (Option ℕ)). word_where values (get_or l r None)) k.are_nexts
          ∙ ap (word_where values) (get_or-map (next_slot items) (ids_of is_state items) r 0 None there ∙ ap (next_slot items) (ids-rank is_state items id y found is))

      input_cleared : (id : ℕ) (y : Item) → find_item items id ≡ Some y → is_input y.body ≡ true → get_or cleared (slot items id) 0 ≡ 0
      input_cleared id y found is =
          let at = slot-own is_input items id y found is in
          let r = kind_rank is_input items id in
          let own : get_or inputs r 0 ≡ slot items id = ap (λ (l : List ℕ). get_or l r 0) k.are_inputs ∙ at.1 in
          ap (λ (p : ℕ). get_or cleared p 0) (sym own) ∙ clear_words r (omega (arith, at.0, ap length k.are_inputs))

      -- in the run's frame it is the word that the state has next
      state_next : (f : Frame) → IsFrame items (given_at is_state items (words_at values states)) (given_leaves items (words_at values states) (words_at values inputs)) f → (id : ℕ) (y : Item) → find_item items id ≡ Some y → is_state y.body ≡ true
          → get_or cleared (slot items id) 0 ≡ next_state items f id
      state_next f frame id y found is = state_moved id y found is ∙ next_slot-word items values f id k.well_formed (k.frame done f frame)

      leaves_fit : LeavesFit items cleared
      leaves_fit id y found leaf =
          leaf_cases (get_or cleared (slot items id) 0 < 2 ^ bits_of items id) y.body leaf
          (λ is.
          let some = frame_exists items (given_at is_state items (words_at values (slots_of is_state items))) (given_leaves items (words_at values (slots_of is_state items)) (words_at values (slots_of is_input items))) k.well_formed in
          let frame : IsFrame items (given_at is_state items (words_at values states)) (given_leaves items (words_at values states) (words_at values inputs)) some.0 = rw (k.are_states, k.are_inputs) some.1 in
          subst (λ (w : ℕ). w < 2 ^ bits_of items id) (sym (state_next some.0 frame id y found is)) (next_state-fits items some.0 id k.well_formed (frame_fits items k.well_formed values k.many_nodes k.leaves some.0 some.1)))
          (λ is. subst (λ (w : ℕ). w < 2 ^ bits_of items id) (sym (input_cleared id y found is)) (pow_pos (bits_of items id)))

      -- a constant is neither a state nor an input
      constants_stand : ConstantsStand items cleared
      constants_stand id y found is =
          clear_others (slot items id)
          (λ j l e. leaf_apart is_input items inputs id j y k.well_formed input_is_leaf k.are_inputs found is l e)
          ∙ put_others (slot items id) (λ j l e. leaf_apart is_state items states id j y k.well_formed state_is_leaf k.are_states found is l e) ∙ k.constants id y found is

      pub advance_keeps : AfterAdvance items nodes slots states inputs nexts bads constraints values taken cleared
      advance_keeps =
          record {
            keeps = other_values items nodes slots states inputs nexts bads constraints values next_values settled k cleared taken many many_next leaves_fit constants_stand;
            next_words = λ f frame. ap (words_at cleared) k.are_states ∙ words_same is_state items cleared (next_state items f) k.well_formed (state_next f frame);
            no_inputs = ap (words_at cleared) k.are_inputs ∙ words_same is_input items cleared (λ id. 0) k.well_formed input_cleared;
          }
