-- What a run's words are after those of a part were given.
use Rattle.std.proofs.Common.{◌≡◌, ◌≢◌, ℕ, suc, ◌+◌, ◌<◌, Bool, true, false, cond, not, ◌&&◌, ◌||◌, nat_eq, eq-eqb, eqb-true, List, [], ◌∷◌, length, map, get_or, set, filter, find, Option, Some, None, is_none, is_some, option_map, option_and_then, unwrap_or, refl, sym, ap, ◌∙◌, arith}
use Rattle.std.specs.List.{position_from, list_any, AllByRecursion}
use Rattle.std.proofs.lemmas.List.Elements.{recursion_from_All}
use Rattle.std.specs.Option.{option_or}
use Rattle.std.proofs.lemmas.Option.{none-some, same_Some}
use Rattle.std.proofs.lemmas.Bool.{true≢false, and_parts, not-true}
use Rattle.std.proofs.lemmas.List.{length-map, get_or-map, length-set, get_or-set_same, get_or-set_other}
use Rattle.btor2.specs.declared.item.Item.{Item}
use Rattle.btor2.specs.declared.item.Body.{Body}
use Rattle.btor2.specs.Items.{find_item, is_input, is_state, names_state, init_value, next_value, constant_of, is_free, init_word}
use Rattle.btor2.specs.Trace.{Frame, next_state}
use Rattle.runs.specs.Frames.{ids_of, kind_rank, given_at}
use Rattle.runs.specs.Run.{first_word, zeros}
use Rattle.runs.proofs.RankLemmas.{rank-below, ids-rank, length-ids}
use Rattle.witness.specs.Texts.{Shape, shape_of, is_free_index, are_distinct}
use Rattle.btor2.specs.Lists.{of_kind}
use Rattle.witness.specs.Judgements.{FrameWords, index_of, given, given_to, initial_words, given_words}
use Rattle.witness.specs.Fits.{LaterFits, StandsAt, words_put}
use Rattle.btor2.proofs.IdLemmas.{input_is_no_state}
use Rattle.witness.specs.WordPlays.{frames_alone}

-- ---- words put into a list

given_none : (list : List (ℕ × ℕ)) (i k : ℕ) → i ≡ k → list_any (λ y. nat_eq y i) (map (λ (p : ℕ × ℕ). p.0) list) ≡ false → given list k ≡ None
given_none [] i k e h = refl
given_none (p ∷ ps) i k e h =
    elim (nat_eq p.0 i) as (λ b. nat_eq p.0 i ≡ b → (b || list_any (λ y. nat_eq y i) (map (λ (q : ℕ × ℕ). q.0) ps)) ≡ false → given (p ∷ ps) k ≡ None) [
      | true ↦ λ same f. absurd (true≢false f)
      | false ↦ λ same f. rw (sym (ap (nat_eq p.0) e) ∙ same) (given_none ps i k e f)
    ] refl h

-- a place has the word that it is given, or else the one that it had
pub put-at : (words : List ℕ) (list : List (ℕ × ℕ)) (k : ℕ) → k < length words → are_distinct (map (λ (p : ℕ × ℕ). p.0) list) ≡ true
    → get_or (words_put words list) k 0 ≡ unwrap_or (given list k) (get_or words k 0)
put-at words [] k h d = refl
put-at words (p ∷ ps) k h d =
    let parts = and_parts (not (list_any (λ y. nat_eq y p.0) (map (λ (q : ℕ × ℕ). q.0) ps))) (are_distinct (map (λ (q : ℕ × ℕ). q.0) ps)) d in
    put-at (set words p.0 p.1) ps k (omega (arith, length-set words p.0 p.1)) parts.1
    ∙ here (not-true _ parts.0) (nat_eq p.0 k) refl
  where
    here : list_any (λ y. nat_eq y p.0) (map (λ (q : ℕ × ℕ). q.0) ps) ≡ false → (b : Bool) → nat_eq p.0 k ≡ b
        → unwrap_or (given ps k) (get_or (set words p.0 p.1) k 0) ≡ unwrap_or (option_map (λ (q : ℕ × ℕ). q.1) (cond b (Some p) (find (λ (q : ℕ × ℕ). nat_eq q.0 k) ps))) (get_or words k 0)
    here once true e =
        let same = eqb-true p.0 k e in
        ap (λ (o : Option ℕ). unwrap_or o (get_or (set words p.0 p.1) k 0)) (given_none ps p.0 k same once)
        ∙ ap (λ (j : ℕ). get_or (set words j p.1) k 0) same ∙ get_or-set_same words k p.1 0 h
    here once false e =
        let apart : k ≢ p.0 = λ s. true≢false (sym (eq-eqb p.0 k (sym s)) ∙ e) in
        ap (unwrap_or (given ps k)) (get_or-set_other words p.0 k p.1 0 apart)

-- ---- an id's index is its rank

index_from : (kind : Body → Bool) (n : ℕ) (items : List Item) (id : ℕ) (y : Item) → find_item items id ≡ Some y → kind y.body ≡ true
    → position_from (λ (x : Item). nat_eq id x.id) n (filter (λ (x : Item). kind x.body) items) ≡ Some (n + kind_rank kind items id)
index_from kind n [] id y h is = absurd (none-some y h)
index_from kind n (x ∷ xs) id y h is = by (λ m f. index_from kind m xs id y f is) (nat_eq id x.id) refl (kind x.body) refl h
  where
    by : ((m : ℕ) → find_item xs id ≡ Some y → position_from (λ (z : Item). nat_eq id z.id) m (filter (λ (z : Item). kind z.body) xs) ≡ Some (m + kind_rank kind xs id))
        → (b : Bool) → nat_eq id x.id ≡ b → (c : Bool) → kind x.body ≡ c → cond b (Some x) (find_item xs id) ≡ Some y
        → position_from (λ (z : Item). nat_eq id z.id) n (cond c (x ∷ filter (λ (z : Item). kind z.body) xs) (filter (λ (z : Item). kind z.body) xs))
        ≡ Some (n + cond b 0 (cond c (suc (kind_rank kind xs id)) (kind_rank kind xs id)))
    by later true e true d f = rw e (ap (λ (k : ℕ). Some k) (omega arith))
    by later true e false d f = absurd (true≢false (sym is ∙ ap (λ (z : Item). kind z.body) (sym (same_Some x y f)) ∙ d))
    by later false e true d f = rw e (later (n + 1) f ∙ ap (λ (k : ℕ). Some k) (omega arith))
    by later false e false d f = later n f

pub index-rank : (kind : Body → Bool) (items : List Item) (id : ℕ) (y : Item) → find_item items id ≡ Some y → kind y.body ≡ true → index_of kind items id ≡ Some (kind_rank kind items id)
index-rank kind items id y h is = index_from kind 0 items id y h is ∙ ap (λ (k : ℕ). Some k) (omega arith)

-- ---- frames that agree

-- two frames have one word at each item of a kind
abbrev pub SameAt : (Body → Bool) → List Item → Frame → Frame → Type 0
SameAt kind items s t = (id : ℕ) (y : Item) → find_item items id ≡ Some y → kind y.body ≡ true → s id ≡ t id

-- a list that has what a function gives for the ids of a kind
pub words_of_kind : (kind : Body → Bool) (items : List Item) (g : ℕ → ℕ) → SameAt kind items (given_at kind items (map g (ids_of kind items))) g
words_of_kind kind items g id y found is =
    let below : kind_rank kind items id < length (ids_of kind items) = omega (arith, rank-below kind items id y found is, length-ids kind items) in
    get_or-map g (ids_of kind items) (kind_rank kind items id) 0 0 below ∙ ap g (ids-rank kind items id y found is)

-- ---- words of parts

-- an item of a kind has the word that a part gives it, or else the one that it had
pub put_given : (kind : Body → Bool) (items : List Item) (words : List ℕ) (list : List (ℕ × ℕ)) → length words ≡ length (ids_of kind items) → are_distinct (map (λ (p : ℕ × ℕ). p.0) list) ≡ true
    → SameAt kind items (given_at kind items (words_put words list)) (λ id. unwrap_or (given_to kind items list id) (given_at kind items words id))
put_given kind items words list many d id y found is =
    let r : ℕ = kind_rank kind items id in
    let below : r < length words = omega (arith, many, rank-below kind items id y found is, length-ids kind items) in
    put-at words list r below d ∙ ap (λ (o : Option ℕ). unwrap_or (option_and_then (given list) o) (get_or words r 0)) (sym (index-rank kind items id y found is))

or_else : (o p : Option ℕ) → unwrap_or o (unwrap_or p 0) ≡ unwrap_or (option_or o p) 0
or_else None p = refl
or_else (Some n) p = refl

-- what is named as a state is one, and an input is none
pub named_state : (items : List Item) (id : ℕ) (y : Item) → find_item items id ≡ Some y → is_state y.body ≡ true → names_state items id ≡ true
named_state items id y found is = rw (found, is) refl

named_input : (items : List Item) (id : ℕ) (y : Item) → find_item items id ≡ Some y → is_input y.body ≡ true → names_state items id ≡ false
named_input items id y found is = rw (found, input_is_no_state y.body is) refl

-- the words of the inputs after a frame's part was given
pub inputs_given : (items : List Item) (frame : FrameWords) → are_distinct (map (λ (p : ℕ × ℕ). p.0) frame.inputs) ≡ true
    → SameAt is_input items (given_at is_input items (words_put (zeros items) frame.inputs)) (given_words items frame)
inputs_given items frame d id y found is =
    let g : Option ℕ = given_to is_input items frame.inputs id in
    put_given is_input items (zeros items) frame.inputs (length-map (ids_of is_input items) (λ (k : ℕ). 0)) d id y found is
    ∙ (ap (unwrap_or g) (words_of_kind is_input items (λ k. 0) id y found is)
    ∙ ap (λ (b : Bool). unwrap_or (cond b (given_to is_state items frame.states id) g) 0) (sym (named_input items id y found is)))

-- ---- free states

ids_free : (items xs : List Item) → map (λ (x : Item). is_free items x.id) xs ≡ map (is_free items) (map (λ (x : Item). x.id) xs)
ids_free items [] = refl
ids_free items (x ∷ xs) = ap (λ (l : List Bool). is_free items x.id ∷ l) (ids_free items xs)

-- a state is free where its index is that of a free state
free_index : (items : List Item) (id : ℕ) (y : Item) → find_item items id ≡ Some y → is_state y.body ≡ true → is_free_index (shape_of items) (kind_rank is_state items id) ≡ is_free items id
free_index items id y found is =
    let r : ℕ = kind_rank is_state items id in
    let below : r < length (ids_of is_state items) = omega (arith, rank-below is_state items id y found is, length-ids is_state items) in
    ap (λ (l : List Bool). get_or l r false) (ids_free items (of_kind is_state items))
    ∙ (get_or-map (is_free items) (ids_of is_state items) r 0 false below ∙ ap (is_free items) (ids-rank is_state items id y found is))

-- a part of free states gives no word to another
free_alone : (shape : Shape) (list : List (ℕ × ℕ)) (k : ℕ) → AllByRecursion (λ (p : ℕ × ℕ). is_free_index shape p.0 ≡ true) list → is_free_index shape k ≡ false → given list k ≡ None
free_alone shape [] k all carried = refl
free_alone shape (p ∷ ps) k all carried =
    elim (nat_eq p.0 k) as (λ b. nat_eq p.0 k ≡ b → option_map (λ (q : ℕ × ℕ). q.1) (cond b (Some p) (find (λ (q : ℕ × ℕ). nat_eq q.0 k) ps)) ≡ None) [
      | true ↦ λ e. absurd (true≢false (sym all.0 ∙ (ap (is_free_index shape) (eqb-true p.0 k e) ∙ carried)))
      | false ↦ λ e. free_alone shape ps k all.1 carried
    ] refl

none_given : (items : List Item) (frame : FrameWords) (id : ℕ) (y : Item) → LaterFits (shape_of items) frame → find_item items id ≡ Some y → is_state y.body ≡ true → is_free items id ≡ false → given_to is_state items frame.states id ≡ None
none_given items frame id y fits found is carried =
    let all = recursion_from_All (λ (p : ℕ × ℕ). is_free_index (shape_of items) p.0 ≡ true) frame.states fits.free in
    ap (option_and_then (given frame.states)) (index-rank is_state items id y found is)
    ∙ free_alone (shape_of items) frame.states (kind_rank is_state items id) all (free_index items id y found is ∙ carried)

-- ---- where a run stands

-- a free state has no init line, and none says what it is next
next_cases : (items : List Item) (f : Frame) (g o n : Option ℕ) → ((is_none o && is_none n) ≡ false → g ≡ None)
    → unwrap_or g (unwrap_or (option_map f n) 0) ≡ cond (is_none o && is_none n) (unwrap_or g 0) (unwrap_or (option_map f n) 0)
next_cases items f g None None alone = refl
next_cases items f g None (Some v) alone = ap (λ (x : Option ℕ). unwrap_or x (f v)) (alone refl)
next_cases items f g (Some u) n alone = ap (λ (x : Option ℕ). unwrap_or x (unwrap_or (option_map f n) 0)) (alone refl)

-- what is named as a state is found
pub state_there : (items : List Item) (id : ℕ) → names_state items id ≡ true → (y : Item) × ((find_item items id ≡ Some y) × (is_state y.body ≡ true))
state_there items id named = by (find_item items id) refl named
  where
    by_kind : (y : Item) (b : Bool) → is_some (cond b (Some y) None) ≡ true → b ≡ true
    by_kind y true h = refl
    by_kind y false h = absurd (cc)

    by : (o : Option Item) → find_item items id ≡ o → is_some (option_and_then (λ (x : Item). cond (is_state x.body) (Some x) None) o) ≡ true → (y : Item) × ((find_item items id ≡ Some y) × (is_state y.body ≡ true))
    by None e h = absurd (cc)
    by (Some y) e h = (y, (e, by_kind y (is_state y.body) h))

-- a run that has the next words stands before a later frame
pub later_stands : (items : List Item) (f words : Frame) (frame : FrameWords) → LaterFits (shape_of items) frame → SameAt is_state items words (next_state items f) → StandsAt items (next_state items f) frame words
later_stands items f words frame fits same id named =
    let there = state_there items id named in
    let y : Item = there.0 in
    let g : Option ℕ = given_to is_state items frame.states id in
    ap (unwrap_or g) (same id y there.1.0 there.1.1)
    ∙ (next_cases items f g (init_value items id) (next_value items id) (none_given items frame id y fits there.1.0 there.1.1)
    ∙ ap (λ (b : Bool). cond (is_free items id) (unwrap_or (cond b g (given_to is_input items frame.inputs id)) 0) (next_state items f id)) (sym named))

first_cases : (items : List Item) (g o n : Option ℕ)
    → unwrap_or (option_or g (option_and_then (constant_of items) o)) 0 ≡ cond (is_none o && is_none n) (unwrap_or g 0) (unwrap_or (option_or g (option_and_then (constant_of items) o)) 0)
first_cases items None None None = refl
first_cases items (Some v) None None = refl
first_cases items g None (Some n) = refl
first_cases items g (Some u) n = refl

-- a run that has the words of the init lines stands before the first frame
pub first_stands : (items : List Item) (frame : FrameWords) (words : Frame) → SameAt is_state items words (first_word items) → StandsAt items (initial_words items (frames_alone (frame ∷ []))) frame words
first_stands items frame words same id named =
    let there = state_there items id named in
    let g : Option ℕ = given_to is_state items frame.states id in
    ap (unwrap_or g) (same id there.0 there.1.0 there.1.1)
    ∙ (or_else g (init_word items id)
    ∙ (first_cases items g (init_value items id) (next_value items id)
    ∙ ap (λ (b : Bool). cond (is_free items id) (unwrap_or (cond b g (given_to is_input items frame.inputs id)) 0) (unwrap_or (option_or g (init_word items id)) 0)) (sym named)))
