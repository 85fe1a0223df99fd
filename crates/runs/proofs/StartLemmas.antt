-- What a new run keeps.
use Rattle.std.proofs.Common.{◌≡◌, ◌≢◌, ℕ, ◌^◌, ◌<◌, Bool, true, false, List, length, map, get_or, All, Option, Some, None, option_and_then, unwrap_or, refl, sym, ap, subst, ◌∙◌, pow_pos, arith}
use Rattle.std.proofs.lemmas.Option.{same_Some}
use Rattle.std.proofs.lemmas.Bool.{true≢false}
use Rattle.std.proofs.lemmas.List.{length-map, get_or-map, ext_get_or}
use Rattle.btor2.specs.declared.item.Item.{Item}
use Rattle.btor2.specs.declared.item.Body.{Body}
use Rattle.btor2.specs.declared.item.Body.TheVariants as body
use Rattle.btor2.specs.Items.{find_item, width_of_body, constant_word, constant_of, is_input, is_state, is_bad, is_constraint, init_value}
use Rattle.btor2.specs.Check.{IsWellFormed}
use Rattle.btor2.specs.Lists.{places, of_kind}
use Rattle.btor2.specs.Trace.{bits_of}
use Rattle.btor2.proofs.ModelLemmas.{IsInitOf, IsInitOf-from_value}
use Rattle.runs.specs.declared.nodes.Node.{Node}
use Rattle.runs.specs.Frames.{has_value, ids_of, kind_rank}
use Rattle.runs.specs.Run.{property_id, first_word, zeros}
use Rattle.runs.specs.Nodes.{slot, run_nodes, standing_word, words_at}
use Rattle.runs.specs.Holds.{next_slot, LeavesFit, ConstantsStand, Keeps}
use Rattle.runs.proofs.RankLemmas.{state_is_leaf, input_is_leaf, leaf_has_value, constant_has_value, rank-below, ids-rank, nth, nth-found, length-ids, length-places, leaf_cases}
use Rattle.runs.proofs.PlaceLemmas.{place_inside, map_read}
use Rattle.runs.proofs.StateLemmas.{nth-get}
use Rattle.runs.proofs.WordLemmas.{slots_of, words_same}
use Rattle.runs.proofs.InvariantLemmas.{slots-apart, length-slots_of}
use Rattle.runs.proofs.AdvanceLemmas.{slot-own, slots-inside, slots-differ, leaf_apart}
use Rattle.btor2.proofs.ConstantLemmas.{constant_below}

-- The slots of a kind.

pub picked_inside : (test : Body → Bool) (items : List Item) (slots list : List ℕ) → slots ≡ map (λ (x : Item). slot items x.id) items → list ≡ places test 0 items → (k : ℕ) → k < length list → get_or list k 0 < length slots
picked_inside test items slots list own e k h =
    let there = nth test items k (omega (arith, ap length e, length-places test 0 items)) in
    omega (arith, ap (λ (l : List ℕ). get_or l k 0) e, place_inside items (get_or (places test 0 items) k 0) there.0 (nth-get test items k there.0 there.1), ap length own, length-map items (λ (x : Item). slot items x.id))

pub picked_slots : (test : Body → Bool) (items : List Item) (slots list : List ℕ) → slots ≡ map (λ (x : Item). slot items x.id) items → list ≡ places test 0 items → map (λ (p : ℕ). get_or slots p 0) list ≡ slots_of test items
picked_slots test items slots list own e =
    rw e (ext_get_or 0 (map (λ (p : ℕ). get_or slots p 0) (places test 0 items)) (slots_of test items)
    (length-map (places test 0 items) (λ (p : ℕ). get_or slots p 0) ∙ length-places test 0 items ∙ sym (length-slots_of test items ∙ length-ids test items))
    (λ k h.
    let inside : k < length (places test 0 items) = omega (arith, length-map (places test 0 items) (λ (p : ℕ). get_or slots p 0)) in
    let there = nth test items k (omega (arith, length-places test 0 items)) in
    let ids : k < length (ids_of test items) = omega (arith, length-places test 0 items, length-ids test items) in
    get_or-map (λ (p : ℕ). get_or slots p 0) (places test 0 items) k 0 0 inside ∙ ap (λ (l : List ℕ). get_or l (get_or (places test 0 items) k 0) 0) own
    ∙ map_read (λ (x : Item). slot items x.id) items (get_or (places test 0 items) k 0) there.0 (nth-get test items k there.0 there.1)
    ∙ ap (slot items) (sym there.1.id) ∙ sym (get_or-map (slot items) (ids_of test items) k 0 0 ids)))

-- The first words fit.

first_fits : (items : List Item) (id : ℕ) → IsWellFormed items → first_word items id < 2 ^ bits_of items id
first_fits items id w = by (init_value items id) (λ v e. IsInitOf-from_value items id v w e)
  where
    by : (o : Option ℕ) → ((v : ℕ) → o ≡ Some v → IsInitOf items id v) → unwrap_or (option_and_then (constant_of items) o) 0 < 2 ^ bits_of items id
    by None line = pow_pos (bits_of items id)
    by (Some v) line =
        let of = line v refl in
        let word : unwrap_or (constant_of items v) 0 ≡ of.constant = ap (λ (o : Option ℕ). unwrap_or o 0) of.word in
        let bits : bits_of items v ≡ bits_of items id = ap (λ (o : Option ℕ). unwrap_or o 0) (of.of_value ∙ sym of.of_state) in
        let below = constant_below items v of.constant w of.word in
        subst (λ (n : ℕ). n < 2 ^ bits_of items id) (sym word) (subst (λ (n : ℕ). of.constant < 2 ^ n) bits below)

-- The words that stand before any is given.

stands_at : (items : List Item) (id : ℕ) (y : Item) (words : List ℕ) → IsWellFormed items → find_item items id ≡ Some y → has_value y.body ≡ true → words ≡ map (λ x. standing_word items x.body) (of_kind has_value items)
    → get_or words (slot items id) 0 ≡ standing_word items y.body
stands_at items id y words w found has e =
    let there = nth has_value items (slot items id) (rank-below has_value items id y found has) in
    let own : there.0.id ≡ id = sym there.1.id ∙ ids-rank has_value items id y found has in
    let same : there.0 ≡ y = same_Some there.0 y (sym (nth-found has_value items (slot items id) there.0 w there.1) ∙ ap (find_item items) own ∙ found) in
    ap (λ (l : List ℕ). get_or l (slot items id) 0) e ∙ map_read (λ (x : Item). standing_word items x.body) (of_kind has_value items) (slot items id) there.0 there.1.stands ∙ ap (λ (x : Item). standing_word items x.body) same

input_stands : (items : List Item) (b : Body) → is_input b ≡ true → standing_word items b ≡ 0
input_stands items (body.Input s) h = by (width_of_body items (body.Input s))
  where
    by : (o : Option ℕ) → unwrap_or (option_and_then (λ (w : ℕ). constant_word w (body.Input s)) o) 0 ≡ 0
    by None = refl
    by (Some w) = refl
input_stands items _ h = absurd (cc)

-- The run.

pub record Starts (items : List Item) (nodes : List Node) (slots states inputs : List ℕ) (nexts : List (Option ℕ)) (bads constraints values next_values : List ℕ) : Type 0 where
  pub keeps : Keeps items nodes slots states inputs nexts bads constraints values next_values false
  pub first_words : words_at values states ≡ map (first_word items) (ids_of is_state items)
  pub no_inputs : words_at values inputs ≡ zeros items

-- the lists that a run is made of
pub record NewLists (items : List Item) (nodes : List Node) (slots states inputs : List ℕ) (nexts : List (Option ℕ)) (bads constraints words next_values : List ℕ) : Type 0 where
  pub well_formed : IsWellFormed items
  pub are_nodes : nodes ≡ run_nodes items items
  pub are_slots : slots ≡ map (λ x. slot items x.id) items
  pub are_states : states ≡ slots_of is_state items
  pub are_inputs : inputs ≡ slots_of is_input items
  pub are_nexts : nexts ≡ map (next_slot items) (ids_of is_state items)
  pub are_bads : bads ≡ map (λ x. slot items (property_id x.body)) (of_kind is_bad items)
  pub are_constraints : constraints ≡ map (λ x. slot items (property_id x.body)) (of_kind is_constraint items)
  pub stand : words ≡ map (λ x. standing_word items x.body) (of_kind has_value items)
  pub are_first : next_values ≡ map (first_word items) (ids_of is_state items)

module _ (items : List Item) (nodes : List Node) (slots states inputs : List ℕ) (nexts : List (Option ℕ)) (bads constraints words next_values : List ℕ) (m : NewLists items nodes slots states inputs nexts bads constraints words next_values) where
  words_many : length words ≡ length (of_kind has_value items)
  words_many = ap length m.stand ∙ length-map (of_kind has_value items) (λ (x : Item). standing_word items x.body)

  pub start_inside : All (λ p. p < length words) states
  start_inside = rw m.are_states (slots-inside is_state items (length words) m.well_formed state_is_leaf words_many)

  pub start_many : length next_values ≡ length states
  start_many = ap length m.are_first ∙ length-map (ids_of is_state items) (first_word items) ∙ sym (ap length m.are_states ∙ length-slots_of is_state items)

  pub start_once : (i j : ℕ) → i < j → j < length states → get_or states i 0 ≢ get_or states j 0
  start_once = rw m.are_states (slots-differ is_state items m.well_formed state_is_leaf)

  module _ (values : List ℕ) (put : words_at values states ≡ next_values) (others : (p : ℕ) → ((j : ℕ) → j < length states → get_or states j 0 ≢ p) → get_or values p 0 ≡ get_or words p 0) (many : length values ≡ length words) where
    state_word : (id : ℕ) (y : Item) → find_item items id ≡ Some y → is_state y.body ≡ true → get_or values (slot items id) 0 ≡ first_word items id
    state_word id y found is =
        let at = slot-own is_state items id y found is in
        let r = kind_rank is_state items id in
        let there : r < length (ids_of is_state items) = omega (arith, at.0, length-slots_of is_state items) in
        let inside : r < length states = omega (arith, at.0, ap length m.are_states) in
        ap (λ (p : ℕ). get_or values p 0) (sym (ap (λ (l : List ℕ). get_or l r 0) m.are_states ∙ at.1)) ∙ sym (get_or-map (λ (p : ℕ). get_or values p 0) states r 0 0 inside)
        ∙ ap (λ (l : List ℕ). get_or l r 0) (put ∙ m.are_first) ∙ get_or-map (first_word items) (ids_of is_state items) r 0 0 there ∙ ap (first_word items) (ids-rank is_state items id y found is)

    input_word : (id : ℕ) (y : Item) → find_item items id ≡ Some y → is_input y.body ≡ true → get_or values (slot items id) 0 ≡ 0
    input_word id y found is =
        let at = slot-own is_input items id y found is in
        let r = kind_rank is_input items id in
        let there : r < length (ids_of is_input items) = omega (arith, at.0, length-slots_of is_input items) in
        let apart : (j : ℕ) → j < length states → get_or states j 0 ≢ slot items id = λ j l e.
        slots-apart items j r m.well_formed (omega (arith, ap length m.are_states, length-slots_of is_state items)) there (ap (λ (list : List ℕ). get_or list j 0) (sym m.are_states) ∙ e ∙ sym at.1) in
        others (slot items id) apart ∙ stands_at items id y words m.well_formed found (leaf_has_value y.body (input_is_leaf y.body is)) m.stand ∙ input_stands items y.body is

    constants_stand : ConstantsStand items values
    constants_stand id y found is =
        others (slot items id) (λ j l e. leaf_apart is_state items states id j y m.well_formed state_is_leaf m.are_states found is l e)
        ∙ stands_at items id y words m.well_formed found (constant_has_value y.body is) m.stand

    leaves_fit : LeavesFit items values
    leaves_fit id y found leaf =
        leaf_cases (get_or values (slot items id) 0 < 2 ^ bits_of items id) y.body leaf
        (λ is. subst (λ (n : ℕ). n < 2 ^ bits_of items id) (sym (state_word id y found is)) (first_fits items id m.well_formed))
        (λ is. subst (λ (n : ℕ). n < 2 ^ bits_of items id) (sym (input_word id y found is)) (pow_pos (bits_of items id)))

    pub starts : Starts items nodes slots states inputs nexts bads constraints values next_values
    starts =
        record {
          keeps = record {
            well_formed = m.well_formed;
            are_nodes = m.are_nodes;
            are_slots = m.are_slots;
            are_states = m.are_states;
            are_inputs = m.are_inputs;
            are_nexts = m.are_nexts;
            are_bads = m.are_bads;
            are_constraints = m.are_constraints;
            many_nodes = many ∙ words_many;
            many_states = ap length m.are_first ∙ length-map (ids_of is_state items) (first_word items) ∙ length-ids is_state items;
            leaves = leaves_fit;
            constants = constants_stand;
            frame = λ e. absurd (true≢false (sym e));
          };
          first_words = put ∙ m.are_first;
          no_inputs = ap (words_at values) m.are_inputs ∙ words_same is_input items values (λ id. 0) m.well_formed input_word;
        }
