-- What each call of a run does to the invariant of the run.
use Rattle.std.proofs.Common.{◌≡◌, ℕ, ◌^◌, ◌<◌, ◌≤◌, Bool, true, false, List, length, get_or, set, Option, Some, IfSome, is_some, option_and_then, unwrap_or, ⊎_elim, refl, sym, ap, subst, ◌∙◌, arith}
use Rattle.std.proofs.lemmas.Option.{same_Some}
use Rattle.std.proofs.lemmas.Bool.{cases_eq, true≢false}
use Rattle.std.proofs.lemmas.List.{length-map, length-set, get_or-map, get_or-set_same, get_or-set_other, ext_get_or}
use Rattle.btor2.specs.declared.item.Item.{Item}
use Rattle.btor2.specs.declared.item.Body.{Body}
use Rattle.btor2.specs.Items.{find_item, node_width, width_of_body, is_input, is_state}
use Rattle.btor2.specs.Check.{IsWellFormed}
use Rattle.btor2.specs.Lists.{places, width_at, of_kind}
use Rattle.btor2.specs.Trace.{Frame, bits_of, IsFrame}
use Rattle.btor2.proofs.AppendLemmas.{some_of}
use Rattle.btor2.proofs.ModelLemmas.{node_width-at}
use Rattle.runs.specs.declared.nodes.Node.{Node}
use Rattle.runs.specs.Frames.{has_value, is_leaf, ids_of, kind_rank, given_at, given_leaves}
use Rattle.runs.specs.Run.{Run}
use Rattle.runs.specs.Nodes.{slot, run_nodes, words_at, NodesFit, settled_values}
use Rattle.runs.specs.Holds.{LeavesFit, ConstantsStand, Keeps}
use Rattle.runs.proofs.RankLemmas.{state_is_leaf, input_is_leaf, leaf_has_value, no_state_is_input, rank-below, slot-one, constant_apart, nth, nth-found, nth-rank, length-ids, length-places}
use Rattle.runs.proofs.PlaceLemmas.{width_there}
use Rattle.runs.proofs.StateLemmas.{nth-get}
use Rattle.runs.proofs.SettleLemmas.{few_nodes}
use Rattle.runs.proofs.WordLemmas.{slots_of, pass_fits, pass_many, pass_words, pass_leaves, pass_constants, pass_frame}

-- runs with the same words and steps
pub run_same : (items : List Item) (states states' inputs inputs' : List ℕ) (settled : Bool) (steps steps' : ℕ) → states ≡ states' → inputs ≡ inputs' → steps ≡ steps'
    → ◌≡◌ {A = Run} (record { items = items; states = states; inputs = inputs; settled = settled; steps = steps }) (record { items = items; states = states'; inputs = inputs'; settled = settled; steps = steps' })
run_same items states states' inputs inputs' settled steps steps' e d h = rw (e, d, h) refl

-- the frame of words of the states and of the inputs
abbrev FrameOf : List Item → List ℕ → List ℕ → Frame → Type 0
FrameOf items states inputs f = IsFrame items (given_at is_state items states) (given_leaves items states inputs) f

-- Settling.

pub record AfterSettle (items : List Item) (nodes : List Node) (slots states inputs : List ℕ) (nexts : List (Option ℕ)) (bads constraints values next_values values' : List ℕ) : Type 0 where
  pub keeps : Keeps items nodes slots states inputs nexts bads constraints values' next_values true
  pub same_states : words_at values' states ≡ words_at values states
  pub same_inputs : words_at values' inputs ≡ words_at values inputs

module _ (items : List Item) (nodes : List Node) (slots states inputs : List ℕ) (nexts : List (Option ℕ)) (bads constraints values next_values : List ℕ) (settled : Bool) (k : Keeps items nodes slots states inputs nexts bads constraints values next_values settled) where
  pub settle_fits : NodesFit nodes values
  settle_fits = rw k.are_nodes (pass_fits items k.well_formed values k.many_nodes k.leaves k.constants)

  pub settle_few : length nodes ≤ length values
  settle_few = omega (arith, ap length k.are_nodes, few_nodes items items, k.many_nodes)

  pub settle_keeps : (values' : List ℕ) → values' ≡ settled_values nodes values → AfterSettle items nodes slots states inputs nexts bads constraints values next_values values'
  settle_keeps values' v =
      let own : values' ≡ settled_values (run_nodes items items) values = v ∙ ap (λ (ns : List Node). settled_values ns values) k.are_nodes in
      let of_states : words_at values' states ≡ words_at values states = rw (own, k.are_states) (pass_words items k.well_formed values k.many_nodes k.leaves k.constants is_state state_is_leaf) in
      let of_inputs : words_at values' inputs ≡ words_at values inputs = rw (own, k.are_inputs) (pass_words items k.well_formed values k.many_nodes k.leaves k.constants is_input input_is_leaf) in
      record {
        keeps = record {
          well_formed = k.well_formed;
          are_nodes = k.are_nodes;
          are_slots = k.are_slots;
          are_states = k.are_states;
          are_inputs = k.are_inputs;
          are_nexts = k.are_nexts;
          are_bads = k.are_bads;
          are_constraints = k.are_constraints;
          many_nodes = ap length own ∙ pass_many items k.well_formed values k.many_nodes k.leaves k.constants ∙ k.many_nodes;
          many_states = k.many_states;
          leaves = rw own (pass_leaves items k.well_formed values k.many_nodes k.leaves k.constants);
          constants = rw own (pass_constants items k.well_formed values k.many_nodes k.leaves k.constants);
          frame = λ e f frame. rw own (pass_frame items k.well_formed values k.many_nodes k.leaves k.constants f
              (subst (λ (l : List ℕ). FrameOf items l (words_at values (slots_of is_input items)) f) (of_states ∙ ap (words_at values) k.are_states)
              (subst (λ (l : List ℕ). FrameOf items (words_at values' states) l f) (of_inputs ∙ ap (words_at values) k.are_inputs) frame)));
        };
        same_states = of_states;
        same_inputs = of_inputs;
      }

-- Setting the word of a leaf.

-- the k-th slot of a kind
pub slot-nth : (test : Body → Bool) (items : List Item) (k : ℕ) → k < length (ids_of test items) → get_or (slots_of test items) k 0 ≡ slot items (get_or (ids_of test items) k 0)
slot-nth test items k h = get_or-map (slot items) (ids_of test items) k 0 0 h

pub length-slots_of : (test : Body → Bool) (items : List Item) → length (slots_of test items) ≡ length (ids_of test items)
length-slots_of test items = length-map (ids_of test items) (slot items)

-- the k-th item of a kind of leaves
pub record Leaf (test : Body → Bool) (items : List Item) (k id : ℕ) : Type 0 where
  pub item : Item
  pub found : find_item items id ≡ Some item
  pub is : test item.body ≡ true
  pub has : has_value item.body ≡ true
  pub own_rank : kind_rank test items id ≡ k
  pub inside : slot items id < length (of_kind has_value items)

pub leaf-nth : (test : Body → Bool) (items : List Item) (k : ℕ) → IsWellFormed items → ((b : Body) → test b ≡ true → is_leaf b ≡ true) → k < length (ids_of test items)
    → Leaf test items k (get_or (ids_of test items) k 0)
leaf-nth test items k w leaf h =
    let there = nth test items k (omega (arith, length-ids test items)) in
    let found = nth-found test items k there.0 w there.1 in
    let has = leaf_has_value there.0.body (leaf there.0.body there.1.is) in
    subst (Leaf test items k) (sym there.1.id) (record {
      item = there.0;
      found = found;
      is = there.1.is;
      has = has;
      own_rank = nth-rank test test items k there.0 w there.1 ∙ there.1.count;
      inside = rank-below has_value items there.0.id there.0 found has;
    })

-- slots of a kind stand once each
pub slots-once : (test : Body → Bool) (items : List Item) (i j : ℕ) → IsWellFormed items → ((b : Body) → test b ≡ true → is_leaf b ≡ true) → i < length (ids_of test items) → j < length (ids_of test items)
    → get_or (slots_of test items) i 0 ≡ get_or (slots_of test items) j 0 → i ≡ j
slots-once test items i j w leaf h l e =
    let a = leaf-nth test items i w leaf h in
    let b = leaf-nth test items j w leaf l in
    let same = slot-one items _ _ a.item b.item a.found a.has b.found b.has (sym (slot-nth test items i h) ∙ e ∙ slot-nth test items j l) in
    sym a.own_rank ∙ ap (kind_rank test items) same ∙ b.own_rank

-- and those of states and inputs are apart
pub slots-apart : (items : List Item) (i j : ℕ) → IsWellFormed items → i < length (ids_of is_state items) → j < length (ids_of is_input items) → get_or (slots_of is_state items) i 0 ≡ get_or (slots_of is_input items) j 0 → ⊥
slots-apart items i j w h l e =
    let a = leaf-nth is_state items i w state_is_leaf h in
    let b = leaf-nth is_input items j w input_is_leaf l in
    let same = slot-one items _ _ a.item b.item a.found a.has b.found b.has (sym (slot-nth is_state items i h) ∙ e ∙ slot-nth is_input items j l) in
    let one = same_Some a.item b.item (sym a.found ∙ ap (find_item items) same ∙ b.found) in
    no_state_is_input a.item.body a.is (ap (λ (x : Item). is_input x.body) one ∙ b.is)

module _ (items : List Item) (w : IsWellFormed items) (values : List ℕ) (many : length values ≡ length (of_kind has_value items)) (leaves : LeavesFit items values) (test : Body → Bool) (leaf : (b : Body) → test b ≡ true → is_leaf b ≡ true)
    (k word : ℕ) (h : k < length (ids_of test items)) where
  abbrev pub one_set : List ℕ
  one_set = set values (get_or (slots_of test items) k 0) word

  set_at-own : get_or one_set (slot items (get_or (ids_of test items) k 0)) 0 ≡ word
  set_at-own =
      ap (λ (s : ℕ). get_or (set values s word) (slot items (get_or (ids_of test items) k 0)) 0) (slot-nth test items k h)
      ∙ get_or-set_same values (slot items (get_or (ids_of test items) k 0)) word 0 (omega (arith, (leaf-nth test items k w leaf h).inside))

  set_at-other : (id : ℕ) → (slot items id ≡ slot items (get_or (ids_of test items) k 0) → ⊥) → get_or one_set (slot items id) 0 ≡ get_or values (slot items id) 0
  set_at-other id apart =
      ap (λ (s : ℕ). get_or (set values s word) (slot items id) 0) (slot-nth test items k h) ∙ get_or-set_other values (slot items (get_or (ids_of test items) k 0)) (slot items id) word 0 apart

  pub set_leaves : word < 2 ^ bits_of items (get_or (ids_of test items) k 0) → LeavesFit items one_set
  set_leaves fits id y found is =
      let own = get_or (ids_of test items) k 0 in
      ⊎_elim
      (λ same.
      let at = leaf-nth test items k w leaf h in
      let e : id ≡ own = slot-one items id own y at.item found (leaf_has_value y.body is) at.found at.has same in
      subst (λ (i : ℕ). get_or one_set (slot items i) 0 < 2 ^ bits_of items i) (sym e) (subst (λ (n : ℕ). n < 2 ^ bits_of items own) (sym set_at-own) fits))
      (λ apart. subst (λ (n : ℕ). n < 2 ^ bits_of items id) (sym (set_at-other id apart)) (leaves id y found is))
      (cases_eq (slot items id) (slot items own))

  pub set_constants : ConstantsStand items values → ConstantsStand items one_set
  set_constants constants id y found is =
      let at = leaf-nth test items k w leaf h in
      set_at-other id (constant_apart items id (get_or (ids_of test items) k 0) y at.item found is at.found (leaf at.item.body at.is)) ∙ constants id y found is

  pub set_own : words_at one_set (slots_of test items) ≡ set (words_at values (slots_of test items)) k word
  set_own =
      ext_get_or 0 (words_at one_set (slots_of test items)) (set (words_at values (slots_of test items)) k word)
      (length-map (slots_of test items) (λ (p : ℕ). get_or one_set p 0) ∙ sym (length-set (words_at values (slots_of test items)) k word ∙ length-map (slots_of test items) (λ (p : ℕ). get_or values p 0)))
      (λ j within.
      let inside : j < length (slots_of test items) = omega (arith, length-map (slots_of test items) (λ (p : ℕ). get_or one_set p 0)) in
      let there : j < length (ids_of test items) = omega (arith, length-slots_of test items) in
      let read = get_or-map (λ (p : ℕ). get_or one_set p 0) (slots_of test items) j 0 0 inside in
      let old = get_or-map (λ (p : ℕ). get_or values p 0) (slots_of test items) j 0 0 inside in
      let range : k < length (words_at values (slots_of test items)) = omega (arith, length-map (slots_of test items) (λ (p : ℕ). get_or values p 0), length-slots_of test items) in
      ⊎_elim
      (λ e.
      read ∙ ap (λ (i : ℕ). get_or one_set (get_or (slots_of test items) i 0) 0) e ∙ ap (λ (s : ℕ). get_or one_set s 0) (slot-nth test items k h) ∙ set_at-own
      ∙ sym (ap (λ (i : ℕ). get_or (set (words_at values (slots_of test items)) k word) i 0) e ∙ get_or-set_same (words_at values (slots_of test items)) k word 0 range))
      (λ ne.
      read ∙ get_or-set_other values (get_or (slots_of test items) k 0) (get_or (slots_of test items) j 0) word 0 (λ e. ne (slots-once test items j k w leaf there h e))
      ∙ sym (get_or-set_other (words_at values (slots_of test items)) k j word 0 ne ∙ old))
      (cases_eq j k))

  pub set_other : (other : Body → Bool) → ((j : ℕ) → j < length (ids_of other items) → get_or (slots_of test items) k 0 ≡ get_or (slots_of other items) j 0 → ⊥)
      → words_at one_set (slots_of other items) ≡ words_at values (slots_of other items)
  set_other other apart =
      ext_get_or 0 (words_at one_set (slots_of other items)) (words_at values (slots_of other items))
      (length-map (slots_of other items) (λ (p : ℕ). get_or one_set p 0) ∙ sym (length-map (slots_of other items) (λ (p : ℕ). get_or values p 0)))
      (λ j within.
      let inside : j < length (slots_of other items) = omega (arith, length-map (slots_of other items) (λ (p : ℕ). get_or one_set p 0)) in
      get_or-map (λ (p : ℕ). get_or one_set p 0) (slots_of other items) j 0 0 inside
      ∙ get_or-set_other values (get_or (slots_of test items) k 0) (get_or (slots_of other items) j 0) word 0 (λ e. apart j (omega (arith, length-slots_of other items)) (sym e))
      ∙ sym (get_or-map (λ (p : ℕ). get_or values p 0) (slots_of other items) j 0 0 inside))

-- a word that fits the width at the k-th place of a kind fits that of its id
pub leaf_fits : (test : Body → Bool) (items : List Item) (k word : ℕ) → IsWellFormed items → ((b : Body) → test b ≡ true → is_leaf b ≡ true) → k < length (places test 0 items)
    → IfSome (width_at items (get_or (places test 0 items) k 0)) (λ n. word < 2 ^ n) → (k < length (ids_of test items)) × (word < 2 ^ bits_of items (get_or (ids_of test items) k 0))
leaf_fits test items k word w leaf h fits =
    let inside : k < length (ids_of test items) = omega (arith, length-ids test items, length-places test 0 items) in
    let there = nth test items k (omega (arith, length-places test 0 items)) in
    let at = nth-get test items k there.0 there.1 in
    let own : node_width items there.0.id ≡ width_of_body items there.0.body = node_width-at items (get_or (places test 0 items) k 0) there.0 w at in
    let wide : is_some (width_at items (get_or (places test 0 items) k 0)) ≡ true =
    width_there items (get_or (places test 0 items) k 0) there.0 w at ∙ leaf_has_value there.0.body (leaf there.0.body there.1.is)
    in
    let width = some_of (width_at items (get_or (places test 0 items) k 0)) wide in
    let at_place : width_at items (get_or (places test 0 items) k 0) ≡ Some width.0 = width.1 in
    let known : node_width items there.0.id ≡ Some width.0 = own ∙ sym (ap (option_and_then (λ (x : Item). width_of_body items x.body)) at) ∙ at_place in
    let bits : bits_of items there.0.id ≡ width.0 = ap (λ (o : Option ℕ). unwrap_or o 0) {y = Some width.0} known in
    let below : word < 2 ^ width.0 = subst (λ (o : Option ℕ). IfSome o (λ n. word < 2 ^ n)) at_place fits in
    (inside, subst (λ (i : ℕ). word < 2 ^ bits_of items i) (sym there.1.id) (subst (λ (n : ℕ). word < 2 ^ n) (sym bits) below))

-- what a run keeps where it is not settled, for other now-values
pub other_values : (items : List Item) (nodes : List Node) (slots states inputs : List ℕ) (nexts : List (Option ℕ)) (bads constraints values next_values : List ℕ) (settled : Bool) → Keeps items nodes slots states inputs nexts bads constraints values next_values settled
    → (values' next_values' : List ℕ) → length values' ≡ length values → length next_values' ≡ length next_values → LeavesFit items values' → ConstantsStand items values' → Keeps items nodes slots states inputs nexts bads constraints values' next_values' false
other_values items nodes slots states inputs nexts bads constraints values next_values settled k values' next_values' many many_next leaves constants =
    record {
      well_formed = k.well_formed;
      are_nodes = k.are_nodes;
      are_slots = k.are_slots;
      are_states = k.are_states;
      are_inputs = k.are_inputs;
      are_nexts = k.are_nexts;
      are_bads = k.are_bads;
      are_constraints = k.are_constraints;
      many_nodes = many ∙ k.many_nodes;
      many_states = many_next ∙ k.many_states;
      leaves = leaves;
      constants = constants;
      frame = λ e. absurd (true≢false (sym e));
    }

pub record AfterSet (items : List Item) (nodes : List Node) (slots states inputs : List ℕ) (nexts : List (Option ℕ)) (bads constraints values next_values own other values' : List ℕ) (k word : ℕ) : Type 0 where
  pub keeps : Keeps items nodes slots states inputs nexts bads constraints values' next_values false
  pub set_word : words_at values' own ≡ set (words_at values own) k word
  pub same_words : words_at values' other ≡ words_at values other

module _ (items : List Item) (nodes : List Node) (slots states inputs : List ℕ) (nexts : List (Option ℕ)) (bads constraints values next_values : List ℕ) (settled : Bool) (keep : Keeps items nodes slots states inputs nexts bads constraints values next_values settled) (k word : ℕ) where
  module _ (h : k < length (places is_state 0 items)) where
    pub state_inside : (k < length states) × (get_or states k 0 < length values)
    state_inside =
        let inside : k < length (ids_of is_state items) = omega (arith, length-ids is_state items, length-places is_state 0 items) in
        let at = leaf-nth is_state items k keep.well_formed state_is_leaf inside in
        let own : get_or states k 0 ≡ slot items (get_or (ids_of is_state items) k 0) = ap (λ (l : List ℕ). get_or l k 0) keep.are_states ∙ slot-nth is_state items k inside in
        (omega (arith, ap length keep.are_states, length-slots_of is_state items), omega (arith, own, at.inside, keep.many_nodes))

    pub set_state_keeps : IfSome (width_at items (get_or (places is_state 0 items) k 0)) (λ n. word < 2 ^ n) → (values' : List ℕ) → values' ≡ set values (get_or states k 0) word
        → AfterSet items nodes slots states inputs nexts bads constraints values next_values states inputs values' k word
    set_state_keeps fits values' v =
        let w = keep.well_formed in
        let fit = leaf_fits is_state items k word w state_is_leaf h fits in
        let own : values' ≡ set values (get_or (slots_of is_state items) k 0) word = v ∙ ap (λ (l : List ℕ). set values (get_or l k 0) word) keep.are_states in
        record {
          keeps = other_values items nodes slots states inputs nexts bads constraints values next_values settled keep values' next_values (ap length v ∙ length-set values (get_or states k 0) word) refl
              (rw own (set_leaves items w values keep.many_nodes keep.leaves is_state state_is_leaf k word fit.0 fit.1)) (rw own (set_constants items w values keep.many_nodes keep.leaves is_state state_is_leaf k word fit.0 keep.constants));
          set_word = rw (own, keep.are_states) (set_own items w values keep.many_nodes keep.leaves is_state state_is_leaf k word fit.0);
          same_words = rw (own, keep.are_inputs) (set_other items w values keep.many_nodes keep.leaves is_state state_is_leaf k word fit.0 is_input (λ j l e. slots-apart items k j w fit.0 l e));
        }

  module _ (h : k < length (places is_input 0 items)) where
    pub input_inside : (k < length inputs) × (get_or inputs k 0 < length values)
    input_inside =
        let inside : k < length (ids_of is_input items) = omega (arith, length-ids is_input items, length-places is_input 0 items) in
        let at = leaf-nth is_input items k keep.well_formed input_is_leaf inside in
        let own : get_or inputs k 0 ≡ slot items (get_or (ids_of is_input items) k 0) = ap (λ (l : List ℕ). get_or l k 0) keep.are_inputs ∙ slot-nth is_input items k inside in
        (omega (arith, ap length keep.are_inputs, length-slots_of is_input items), omega (arith, own, at.inside, keep.many_nodes))

    pub set_input_keeps : IfSome (width_at items (get_or (places is_input 0 items) k 0)) (λ n. word < 2 ^ n) → (values' : List ℕ) → values' ≡ set values (get_or inputs k 0) word
        → AfterSet items nodes slots states inputs nexts bads constraints values next_values inputs states values' k word
    set_input_keeps fits values' v =
        let w = keep.well_formed in
        let fit = leaf_fits is_input items k word w input_is_leaf h fits in
        let own : values' ≡ set values (get_or (slots_of is_input items) k 0) word = v ∙ ap (λ (l : List ℕ). set values (get_or l k 0) word) keep.are_inputs in
        record {
          keeps = other_values items nodes slots states inputs nexts bads constraints values next_values settled keep values' next_values (ap length v ∙ length-set values (get_or inputs k 0) word) refl
              (rw own (set_leaves items w values keep.many_nodes keep.leaves is_input input_is_leaf k word fit.0 fit.1)) (rw own (set_constants items w values keep.many_nodes keep.leaves is_input input_is_leaf k word fit.0 keep.constants));
          set_word = rw (own, keep.are_inputs) (set_own items w values keep.many_nodes keep.leaves is_input input_is_leaf k word fit.0);
          same_words = rw (own, keep.are_states) (set_other items w values keep.many_nodes keep.leaves is_input input_is_leaf k word fit.0 is_state (λ j l e. slots-apart items j k w l fit.0 (sym e)));
        }
