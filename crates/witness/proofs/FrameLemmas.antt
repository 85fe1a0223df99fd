-- Frames of a run, one after another, and what one of them says in the words of judgements.
use Rattle.std.proofs.Common.{◌≡◌, ℕ, suc, ◌+◌, ◌<◌, ◌≤◌, Bool, true, false, cond, ◌&&◌, nat_eq, List, [], ◌∷◌, ◌++◌, length, map, get_or, drop, flat_map, slice_get, Option, Some, None, IfSome, is_none, option_and_then, refl, sym, ap, ap₂, subst, ◌∙◌, append_assoc, arith, ◌||◌, set, not, inl, inr}
use Rattle.std.specs.List.{position_from, list_any, AllByRecursion}
use Rattle.std.proofs.Math.Seq.{drop-cons}
use Rattle.std.proofs.lemmas.List.{length-map, drop_all, get_or-set_same, get_or-set_other}
use Rattle.btor2.specs.declared.item.Item.{Item}
use Rattle.btor2.specs.declared.item.Body.{Body}
use Rattle.btor2.specs.Items.{operands, is_input, is_state, is_bad, is_constraint, constant_of, init_value, next_value, init_word, find_item, position_of, is_free}
use Rattle.btor2.specs.Check.{IsWellFormed}
use Rattle.btor2.specs.Lists.{places, of_kind, init_place, constant_at}
use Rattle.btor2.specs.Trace.{Frame, state_word, LineHolds, IsFrame, IsTrace}
use Rattle.btor2.proofs.ModelLemmas.{find_item-in}
use Rattle.runs.specs.Run.{property_id, is_one, Run, IsNow, zeros}
use Rattle.runs.proofs.RankLemmas.{nth, length-places, IsNth, length-ids, state_leaf, input_leaf, either_word}
use Rattle.runs.proofs.PlaceLemmas.{map_read}
use Rattle.runs.proofs.StateLemmas.{nth-get, init_at}
use Rattle.btor2.specs.Reachability.{nodes_of}
use Rattle.witness.specs.Fits.{never_1, first_unreached, is_set, FirstFits, StandsAt, RisesAmong, NoneIsSet, words_put}
use Rattle.witness.specs.Judgements.{differs, first_different, FrameWords, initial_words, given_words, given_frames, Words}
use Rattle.witness.proofs.GivenWordLemmas.{SameAt, put_given, named_state, inputs_given}
use Rattle.std.proofs.lemmas.Bool.{cases_eq}
use Rattle.std.proofs.lemmas.Option.{get_or_from_slice_get}
use Rattle.btor2.proofs.LookUps.{found, init_some, init_none}
use Rattle.runs.specs.Frames.{ids_of, given_leaves, given_at}
use Rattle.witness.specs.Texts.{shape_of}
use Rattle.btor2.specs.declared.item.Body.TheVariants as body
use Rattle.btor2.proofs.TraceLemmas.{trace_length}

-- ---- frames from words that agree

line_agrees : (items : List Item) (s t i j f : Frame) (id : ℕ) (b : Body) → (is_state b ≡ true → state_word items s i id ≡ state_word items t j id) → (is_input b ≡ true → i id ≡ j id)
    → LineHolds items s i f id b → LineHolds items t j f id b
line_agrees items s t i j f id (body.Input n) states inputs h = h ∙ inputs refl
line_agrees items s t i j f id (body.State n) states inputs h = h ∙ states refl
line_agrees items s t i j f id _ states inputs h = h

lines_agree : (items : List Item) (s t i j f : Frame) (before rest : List Item) → IsWellFormed items → items ≡ before ++ rest → SameAt is_state items (state_word items s i) (state_word items t j) → SameAt is_input items i j
    → AllByRecursion (λ (x : Item). LineHolds items s i f x.id x.body) rest → AllByRecursion (λ (x : Item). LineHolds items t j f x.id x.body) rest
lines_agree items s t i j f before [] w e states inputs h = tt
lines_agree items s t i j f before (x ∷ xs) w e states inputs h =
    let found = find_item-in items x w (record { before = before; after = xs; splits = e }) in (
      line_agrees items s t i j f x.id x.body (states x.id x found) (inputs x.id x found) h.0,
      lines_agree items s t i j f (before ++ x ∷ []) xs w (rw append_assoc e) states inputs h.1,
    )

-- a frame goes by the words of the states, carried or given, and by those of the inputs
pub frame_agrees : (items : List Item) (s t i j f : Frame) → IsWellFormed items → SameAt is_state items (state_word items s i) (state_word items t j) → SameAt is_input items i j → IsFrame items s i f → IsFrame items t j f
frame_agrees items s t i j f w states inputs h = lines_agree items s t i j f [] items w refl states inputs h

-- a frame has the words of the states, of which those that are free have no init line
line_state : (items : List Item) (s i f : Frame) (id : ℕ) (b : Body) → is_state b ≡ true → LineHolds items s i f id b → f id ≡ state_word items s i id
line_state items s i f id (body.State n) is h = h
line_state items s i f id _ is h = absurd (cc)

free_differs_not : (items : List Item) (o n : Option ℕ) (word given_word carried : ℕ) → word ≡ cond (is_none o && is_none n) given_word carried
    → differs (option_and_then (constant_of items) o) word ≡ differs (option_and_then (constant_of items) o) carried
free_differs_not items None n word given_word carried e = refl
free_differs_not items (Some v) n word given_word carried e = ap (differs (constant_of items v)) e

state_differs : (items : List Item) (s i f : Frame) (x : Item) → is_state x.body ≡ true → LineHolds items s i f x.id x.body → differs (init_word items x.id) (f x.id) ≡ differs (init_word items x.id) (s x.id)
state_differs items s i f x is h = free_differs_not items (init_value items x.id) (next_value items x.id) (f x.id) (i x.id) (s x.id) (line_state items s i f x.id x.body is h)

different_from : (items : List Item) (s i f : Frame) (n : ℕ) (rest : List Item) → AllByRecursion (λ (x : Item). LineHolds items s i f x.id x.body) rest
    → position_from (λ (x : Item). differs (init_word items x.id) (f x.id)) n (of_kind is_state rest) ≡ position_from (λ (x : Item). differs (init_word items x.id) (s x.id)) n (of_kind is_state rest)
different_from items s i f n [] h = refl
different_from items s i f n (x ∷ xs) h = by (λ m. different_from items s i f m xs h.1) (is_state x.body) refl
  where
    by : ((m : ℕ) → position_from (λ (y : Item). differs (init_word items y.id) (f y.id)) m (of_kind is_state xs) ≡ position_from (λ (y : Item). differs (init_word items y.id) (s y.id)) m (of_kind is_state xs))
        → (b : Bool) → is_state x.body ≡ b
        → position_from (λ (y : Item). differs (init_word items y.id) (f y.id)) n (cond b (x ∷ of_kind is_state xs) (of_kind is_state xs))
        ≡ position_from (λ (y : Item). differs (init_word items y.id) (s y.id)) n (cond b (x ∷ of_kind is_state xs) (of_kind is_state xs))
    by later true is = ap₂ (λ (b : Bool) (o : Option ℕ). cond b (Some n) o) (state_differs items s i f x is h.0) (later (n + 1))
    by later false is = later n

pub different_of : (items : List Item) (s i f : Frame) → IsFrame items s i f → first_different items f ≡ first_different items s
different_of items s i f h = different_from items s i f 0 items h

-- ---- the first of a list

pub first_step : {A : Type 0} (test : A → Bool) (list : List A) (i : ℕ) (d : A) → i < length list
    → position_from test i (drop i list) ≡ cond (test (get_or list i d)) (Some i) (position_from test (i + 1) (drop (i + 1) list))
first_step test list i d h =
    let more : i + 1 ≡ suc i = omega arith in
    ap (position_from test i) (drop-cons list i d h) ∙ ap (λ (k : ℕ). cond (test (get_or list i d)) (Some i) (position_from test (i + 1) (drop k list))) (sym more)

pub first_end : {A : Type 0} (test : A → Bool) (list : List A) (i : ℕ) → length list ≤ i → position_from test i (drop i list) ≡ None
first_end test list i h = ap (position_from test i) (drop_all i list h)

-- ---- the nodes of properties

abbrev pub NamesOne : (Body → Bool) → Type 0
NamesOne kind = (b : Body) → kind b ≡ true → operands b ≡ property_id b ∷ []

pub bad_names : NamesOne is_bad
bad_names (body.Bad a) h = refl
bad_names _ h = absurd (cc)

pub constraint_names : NamesOne is_constraint
constraint_names (body.Constraint a) h = refl
constraint_names _ h = absurd (cc)

nodes_map : (kind : Body → Bool) (items : List Item) → NamesOne kind → nodes_of kind items ≡ map (λ (x : Item). property_id x.body) (of_kind kind items)
nodes_map kind [] names = refl
nodes_map kind (x ∷ xs) names = by (nodes_map kind xs names) (kind x.body) refl
  where
    by : nodes_of kind xs ≡ map (λ (y : Item). property_id y.body) (of_kind kind xs) → (b : Bool) → kind x.body ≡ b
        → flat_map (λ (y : Item). operands y.body) (cond b (x ∷ of_kind kind xs) (of_kind kind xs)) ≡ map (λ (y : Item). property_id y.body) (cond b (x ∷ of_kind kind xs) (of_kind kind xs))
    by later true is = rw (names x.body is) (ap (λ (l : List ℕ). property_id x.body ∷ l) later)
    by later false is = later

pub length-nodes : (kind : Body → Bool) (items : List Item) → NamesOne kind → length (nodes_of kind items) ≡ length (places kind 0 items)
length-nodes kind items names =
    ap length (nodes_map kind items names) ∙ length-map (of_kind kind items) (λ (x : Item). property_id x.body) ∙ sym (length-places kind 0 items)

-- a property's answer is whether its node is 1
pub property_at : (kind : Body → Bool) (items : List Item) (i : ℕ) (f : Frame) (b : Bool) → NamesOne kind → i < length (places kind 0 items)
    → IfSome (slice_get items (get_or (places kind 0 items) i 0)) (λ x. b ≡ is_one f x.body) → b ≡ nat_eq (f (get_or (nodes_of kind items) i 0)) 1
property_at kind items i f b names h says =
    let there = nth kind items i (omega (arith, length-places kind 0 items)) in
    let at = nth-get kind items i there.0 there.1 in
    let own : b ≡ is_one f there.0.body = subst (λ (o : Option Item). IfSome o (λ x. b ≡ is_one f x.body)) at says in
    let node : get_or (nodes_of kind items) i 0 ≡ property_id there.0.body =
    ap (λ (l : List ℕ). get_or l i 0) (nodes_map kind items names) ∙ map_read (λ (x : Item). property_id x.body) (of_kind kind items) i there.0 there.1.stands in
    own ∙ ap (λ (a : ℕ). nat_eq (f a) 1) (sym node)

-- ---- the frames of a trace

-- A run that stood before a frame, with these words of its states, that was given the words of the frame's two parts, and that was settled then, is in the frame.
module _ (items : List Item) (settled : Run) (base : List ℕ) (frame : FrameWords) (w : IsWellFormed items) (many : length base ≡ length (ids_of is_state items)) (fits : FirstFits (shape_of items) frame)
    (of_items : settled.items ≡ items) (of_states : settled.states ≡ words_put base frame.states) (of_inputs : settled.inputs ≡ words_put (zeros items) frame.inputs) where
  run_now : (f : Frame) → IsFrame items (given_at is_state items (words_put base frame.states)) (given_leaves items (words_put base frame.states) (words_put (zeros items) frame.inputs)) f → IsNow settled f
  run_now f h =
      subst (λ (l : List Item). IsFrame l (given_at is_state l settled.states) (given_leaves l settled.states settled.inputs) f) (sym of_items)
      (subst (λ (l : List ℕ). IsFrame items (given_at is_state items l) (given_leaves items l settled.inputs) f) (sym of_states)
      (subst (λ (l : List ℕ). IsFrame items (given_at is_state items (words_put base frame.states)) (given_leaves items (words_put base frame.states) l) f) (sym of_inputs) h))

  -- the words of the states, as the frame has them
  state_now : (carried : Frame) → StandsAt items carried frame (given_at is_state items base) → (id : ℕ) (y : Item) → find_item items id ≡ Some y → is_state y.body ≡ true
      → state_word items carried (given_words items frame) id ≡ given_at is_state items (words_put base frame.states) id
  state_now carried stands id y found is = sym (put_given is_state items base frame.states many fits.states.distinct id y found is ∙ stands id (named_state items id y found is))

  pub settled_now : (carried f : Frame) → StandsAt items carried frame (given_at is_state items base) → IsFrame items carried (given_words items frame) f → IsNow settled f
  settled_now carried f stands h =
      let states : List ℕ = words_put base frame.states in
      let inputs : List ℕ = words_put (zeros items) frame.inputs in
      run_now f
      (frame_agrees items carried (given_at is_state items states) (given_words items frame) (given_leaves items states inputs) f w
      (λ id y found is. state_now carried stands id y found is
      ∙ sym (either_word (is_free items id) (given_at is_state items states id) (given_leaves items states inputs id) (given_at is_state items states id) refl (state_leaf items states inputs id y found is)))
      (λ id y found is. sym (inputs_given items frame fits.inputs.distinct id y found is) ∙ sym (input_leaf items states inputs id y found is)) h)

-- ---- the first of a list

pub first_here : {A : Type 0} (test : A → Bool) (list : List A) (i : ℕ) (d : A) (whole : Option ℕ) → i < length list → test (get_or list i d) ≡ true → position_from test i (drop i list) ≡ whole → Some i ≡ whole
first_here test list i d whole h is e =
    sym (first_step test list i d h ∙ ap (λ (b : Bool). cond b (Some i) (position_from test (i + 1) (drop (i + 1) list))) is) ∙ e

pub first_behind : {A : Type 0} (test : A → Bool) (list : List A) (i : ℕ) (d : A) (whole : Option ℕ) → i < length list → test (get_or list i d) ≡ false → position_from test i (drop i list) ≡ whole
    → position_from test (i + 1) (drop (i + 1) list) ≡ whole
first_behind test list i d whole h is e =
    sym (first_step test list i d h ∙ ap (λ (b : Bool). cond b (Some i) (position_from test (i + 1) (drop (i + 1) list))) is) ∙ e

-- the test of a constraint
pub constraint_test : (items : List Item) (i : ℕ) (f : Frame) (b b' : Bool) → i < length (places is_constraint 0 items) → IfSome (slice_get items (get_or (places is_constraint 0 items) i 0)) (λ x. b ≡ is_one f x.body) → b ≡ b'
    → not (nat_eq (f (get_or (nodes_of is_constraint items) i 0)) 1) ≡ not b'
constraint_test items i f b b' h says e = ap not (sym (property_at is_constraint items i f b constraint_names h says) ∙ e)

pub constraint_inside : (items : List Item) (i : ℕ) → i < length (places is_constraint 0 items) → i < length (nodes_of is_constraint items)
constraint_inside items i h = omega (arith, length-nodes is_constraint items constraint_names)

-- the test of a state
pub record StateTest (items : List Item) (k : ℕ) (f : Frame) (b : Bool) : Type 0 where
  pub item : Item
  pub inside : k < length (of_kind is_state items)
  pub test : differs (init_word items (get_or (of_kind is_state items) k item).id) (f (get_or (of_kind is_state items) k item).id) ≡ b

pub state_test : (items : List Item) (k : ℕ) (f : Frame) (b b' : Bool) → k < length (places is_state 0 items) → IfSome (slice_get (of_kind is_state items) k) (λ x. b ≡ differs (init_word items x.id) (f x.id)) → b ≡ b' → StateTest items k f b'
state_test items k f b b' h says e =
    let inside : k < length (of_kind is_state items) = omega (arith, length-places is_state 0 items) in
    let there = nth is_state items k inside in
    let x = there.0 in
    let own : b ≡ differs (init_word items x.id) (f x.id) = subst (λ (o : Option Item). IfSome o (λ y. b ≡ differs (init_word items y.id) (f y.id))) there.1.stands says in
    record {
      item = x;
      inside = inside;
      test = ap (λ (y : Item). differs (init_word items y.id) (f y.id)) (get_or_from_slice_get (of_kind is_state items) k x x there.1.stands) ∙ sym own ∙ e;
    }

-- ---- the init line of a state

-- what is known of the k-th state, by its init line's place and constant
module _ (items : List Item) (k : ℕ) (f : Frame) (h : k < length (places is_state 0 items)) where
  abbrev pub Differs : Bool → Type 0
  Differs b = IfSome (slice_get (of_kind is_state items) k) (λ x. b ≡ differs (init_word items x.id) (f x.id))

  by_item : (b : Bool) → ((x : Item) → IsNth is_state items k x → b ≡ differs (init_word items x.id) (f x.id)) → Differs b
  by_item b says =
      let there = nth is_state items k (omega (arith, length-places is_state 0 items)) in
      subst (λ (o : Option Item). IfSome o (λ x. b ≡ differs (init_word items x.id) (f x.id))) (sym there.1.stands) (says there.0 there.1)

  own_place : (x : Item) → IsNth is_state items k x → init_place items (get_or (places is_state 0 items) k 0) ≡ option_and_then (position_of items) (init_value items x.id)
  own_place x n =
      init_at items k (omega (arith, length-ids is_state items, length-places is_state 0 items)) ∙ ap (λ (i : ℕ). option_and_then (position_of items) (init_value items i)) n.id

  pub differs-none : None ≡ init_place items (get_or (places is_state 0 items) k 0) → Differs false
  differs-none e = by_item false (λ x n. ap (λ (o : Option ℕ). differs o (f x.id)) (sym (init_none items (init_value items x.id) (sym (own_place x n) ∙ sym e))))

  own_constant : (place : ℕ) (x : Item) → IsNth is_state items k x → Some place ≡ init_place items (get_or (places is_state 0 items) k 0) → constant_at items place ≡ init_word items x.id
  own_constant place x n e = (init_some items (init_value items x.id) place (sym (own_place x n) ∙ sym e)).0

  differs-no_constant : (place : ℕ) → Some place ≡ init_place items (get_or (places is_state 0 items) k 0) → None ≡ constant_at items place → Differs false
  differs-no_constant place e d = by_item false (λ x n. ap (λ (o : Option ℕ). differs o (f x.id)) (d ∙ own_constant place x n e))

  differs-some : (place word value : ℕ) → Some place ≡ init_place items (get_or (places is_state 0 items) k 0) → Some word ≡ constant_at items place
      → IfSome (slice_get items (get_or (places is_state 0 items) k 0)) (λ x. value ≡ f x.id) → Differs (not (nat_eq word value))
  differs-some place word value e d says =
      by_item (not (nat_eq word value))
      (λ x n.
      let own : value ≡ f x.id = subst (λ (o : Option Item). IfSome o (λ y. value ≡ f y.id)) (nth-get is_state items k x n) says in
      ap (λ (v : ℕ). not (nat_eq word v)) own ∙ ap (λ (o : Option ℕ). differs o (f x.id)) (d ∙ own_constant place x n e))

  -- what a state with an init line differs by, whatever its value is
  pub differs-init : (place value : ℕ) (o : Option ℕ) → Some place ≡ init_place items (get_or (places is_state 0 items) k 0) → o ≡ constant_at items place
      → IfSome (slice_get items (get_or (places is_state 0 items) k 0)) (λ x. value ≡ f x.id) → Differs (differs o value)
  differs-init place value None e d says = differs-no_constant place e d
  differs-init place value (Some word) e d says = differs-some place word value e d says

-- ---- flags

-- the flag at i is set too where b holds
pub note_more : (b : Bool) (v : ℕ → Bool) (rose rose0 : List Bool) (i j : ℕ) → i < length rose → b ≡ v i
    → ((k : ℕ) → k < i → is_set rose k ≡ (is_set rose0 k || v k)) → ((k : ℕ) → i ≤ k → is_set rose k ≡ is_set rose0 k) → j < i + 1 → is_set (set rose i (is_set rose i || b)) j ≡ (is_set rose0 j || v j)
note_more b v rose rose0 i j h e below above l =
    elim (cases_eq j i) [
      | inl same ↦ rw same (get_or-set_same rose i (is_set rose i || b) false h ∙ ap₂ (λ (x y : Bool). x || y) (above i (omega arith)) e)
      | inr apart ↦ get_or-set_other rose i j (is_set rose i || b) false apart ∙ below j (omega arith)
    ]

-- ---- claims

twice_not : (b c : Bool) → b ≡ (false || not c) → not b ≡ c
twice_not b true e = ap not e
twice_not b false e = ap not e

module _ (claims : List ℕ) (nodes : List ℕ) (fs : List Frame) (none rose : List Bool) (i : ℕ) (whole : Option ℕ) (h : i < length nodes) (clear : NoneIsSet none) (rises : RisesAmong nodes fs none rose)
    (e : first_unreached claims fs i (drop i nodes) ≡ whole) where
  unreached_step : cond (list_any (λ c. nat_eq c i) claims && not (is_set rose i)) (Some i) (first_unreached claims fs (i + 1) (drop (i + 1) nodes)) ≡ whole
  unreached_step =
      let one : i + 1 ≡ suc i = omega arith in
      let own : is_set rose i ≡ (false || not (never_1 fs (get_or nodes i 0))) = rises i h ∙ ap (λ (b : Bool). b || not (never_1 fs (get_or nodes i 0))) (clear i) in
      ap (λ (b : Bool). cond (list_any (λ c. nat_eq c i) claims && b) (Some i) (first_unreached claims fs (i + 1) (drop (i + 1) nodes))) (twice_not (is_set rose i) (never_1 fs (get_or nodes i 0)) own)
      ∙ ap (λ (k : ℕ). cond (list_any (λ c. nat_eq c i) claims && never_1 fs (get_or nodes i 0)) (Some i) (first_unreached claims fs k (drop k nodes))) one
      ∙ sym (ap (first_unreached claims fs i) (drop-cons nodes i 0 h)) ∙ e

  pub unreached_by : (b : Bool) → (list_any (λ c. nat_eq c i) claims && not (is_set rose i)) ≡ b → cond b (Some i) (first_unreached claims fs (i + 1) (drop (i + 1) nodes)) ≡ whole
  unreached_by b is = sym (ap (λ (b : Bool). cond b (Some i) (first_unreached claims fs (i + 1) (drop (i + 1) nodes))) is) ∙ unreached_step

pub unreached_end : (claims nodes : List ℕ) (fs : List Frame) (i : ℕ) (whole : Option ℕ) → length nodes ≤ i → first_unreached claims fs i (drop i nodes) ≡ whole → None ≡ whole
unreached_end claims nodes fs i whole h e = sym (ap (first_unreached claims fs i) (drop_all i nodes h)) ∙ e

-- ---- the judgement

pub as_many_frames : (items : List Item) (w : Words) (fs : List Frame) → IsTrace items (initial_words items w) (given_frames items w) fs → length w.frames ≡ length fs
as_many_frames items w fs h = sym (trace_length items (initial_words items w) (given_frames items w) fs h ∙ length-map w.frames (given_words items))
