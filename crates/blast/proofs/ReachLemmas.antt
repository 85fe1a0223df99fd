-- From initial words to initial bits and back, and what rises in a model and in a circuit that lowers it.
use Rattle.std.proofs.Common.{◌≡◌, ℕ, zero, suc, ◌+◌, ◌/◌, ◌^◌, ◌<◌, Bool, true, false, List, [], ◌∷◌, ◌++◌, length, map, drop, replicate, All, Option, Some, None, ◌&&◌, not, option_and_then, unwrap_or, refl, sym, ap, ap₂, subst, ◌∙◌, length-append, arith}
use Rattle.std.specs.Prelude.{if◌then◌else◌}
use Rattle.std.specs.List.{AllZip, AllByRecursion}
use Rattle.std.proofs.lemmas.List.{length-map}
use Rattle.std.proofs.lemmas.List.Elements.{All-nil, All-cons, All-head, All-tail}
use Rattle.base.specs.Word.{word, bits}
use Rattle.base.proofs.BitLemmas.{length-bits, word-bits}
use Rattle.btor2.specs.declared.item.Item.{Item}
use Rattle.btor2.specs.Items.{is_input, is_free_state, is_carried_state, names_state, constant_of, init_value, init_word}
use Rattle.btor2.specs.Check.{IsWellFormed}
use Rattle.btor2.specs.Trace.{Frame, bits_of, IsInitial, IsTrace, IsInput}
use Rattle.btor2.proofs.ModelLemmas.{IsInitOf-from_value}
use Rattle.btor2.proofs.IdLemmas.{state_item}
use Rattle.btor2.proofs.InitLemmas.{fitting_inputs, fitting_states, init_word_below, init_words_say, inits_hold, init_not_free}
use Rattle.aiger.specs.declared.circuit.Latch.{Latch}
use Rattle.aiger.specs.declared.circuit.Reset.{Reset}
use Rattle.aiger.specs.declared.circuit.Reset.TheVariants as reset
use Rattle.base.specs.Literal.{Valuation}
use Rattle.aiger.specs.Circuit.{Circuit}
use Rattle.aiger.specs.Trace.{AgreesWithReset, AreInitial, IsCircuitTrace}
use Rattle.blast.specs.Cost.{input_width, given_width, carried_width}
use Rattle.blast.specs.Leaves.{by_body, given_by_kind, leaf_bits, leaf_resets, resets_of_word, reset_of_bit, input_bits, state_bits, state_resets}
use Rattle.blast.specs.Lowering.{Lowers, ShowsSame}
use Rattle.blast.proofs.NodeLemmas.{length-leaves}
use Rattle.blast.proofs.LowerAssembly.{length-resets, length-state_resets}
use Rattle.blast.proofs.LeafWords.{word_for, word_fits, input_named, free_named, state_bits_are, input_bits_are, below_or_0}
use Rattle.base.specs.Shown.{Shown, rises_within}
use Rattle.aiger.specs.Reachability.{circuit_shows, CanRiseInCircuit}
use Rattle.aiger.proofs.TraceLemmas.{trace_inputs}
use Rattle.btor2.specs.Reachability.{model_shows, CanRise}

-- ---- bits that agree with resets

Agree : List Reset → List Bool → Type 0
Agree [] [] = Unit {0}
Agree [] (b ∷ bs) = ⊥
Agree (r ∷ rs) [] = ⊥
Agree (r ∷ rs) (b ∷ bs) = AgreesWithReset r b × Agree rs bs

initial_from_agree : (ls : List Latch) (bs : List Bool) → Agree (map (λ latch. latch.reset) ls) bs → AreInitial ls bs
unfolding Agree
initial_from_agree [] [] h = tt
initial_from_agree [] (b ∷ bs) h = h
initial_from_agree (l ∷ ls) [] h = h
initial_from_agree (l ∷ ls) (b ∷ bs) h = (h.0, initial_from_agree ls bs h.1)

agree_from_initial : (ls : List Latch) (bs : List Bool) → AreInitial ls bs → Agree (map (λ latch. latch.reset) ls) bs
unfolding Agree
agree_from_initial [] [] h = tt
agree_from_initial [] (b ∷ bs) h = h
agree_from_initial (l ∷ ls) [] h = h
agree_from_initial (l ∷ ls) (b ∷ bs) h = (h.0, agree_from_initial ls bs h.1)

agree_length : (rs : List Reset) (bs : List Bool) → Agree rs bs → length bs ≡ length rs
unfolding Agree
agree_length [] [] h = refl
agree_length [] (b ∷ bs) h = absurd h
agree_length (r ∷ rs) [] h = absurd h
agree_length (r ∷ rs) (b ∷ bs) h = ap suc (agree_length rs bs h.1)

agree_append : (rs ss : List Reset) (bs cs : List Bool) → Agree rs bs → Agree ss cs → Agree (rs ++ ss) (bs ++ cs)
unfolding Agree
agree_append [] ss [] cs h k = k
agree_append [] ss (b ∷ bs) cs h k = absurd h
agree_append (r ∷ rs) ss [] cs h k = absurd h
agree_append (r ∷ rs) ss (b ∷ bs) cs h k = (h.0, agree_append rs ss bs cs h.1 k)

agree_split : (rs ss : List Reset) (bs cs : List Bool) → length bs ≡ length rs → Agree (rs ++ ss) (bs ++ cs) → Agree rs bs × Agree ss cs
unfolding Agree
agree_split [] ss [] cs e h = (tt, h)
agree_split [] ss (b ∷ bs) cs e h = absurd (omega arith)
agree_split (r ∷ rs) ss [] cs e h = absurd (omega arith)
agree_split (r ∷ rs) ss (b ∷ bs) cs e h =
    let rest = agree_split rs ss bs cs (omega arith) h.1 in
    ((h.0, rest.0), rest.1)

free_agree : (n x : ℕ) → Agree (replicate n reset.Free) (bits n x)
unfolding Agree
free_agree zero x = tt
free_agree (suc n) x = (tt, free_agree n (x / 2))

bit_agrees : (b : Bool) → AgreesWithReset (reset_of_bit b) b
bit_agrees true = refl
bit_agrees false = refl

bits_agree : (bs : List Bool) → Agree (map reset_of_bit bs) bs
unfolding Agree
bits_agree [] = tt
bits_agree (b ∷ bs) = (bit_agrees b, bits_agree bs)

bit_same : (b c : Bool) → AgreesWithReset (reset_of_bit b) c → b ≡ c
bit_same true c h = sym h
bit_same false c h = sym h

bits_same : (bs cs : List Bool) → Agree (map reset_of_bit bs) cs → bs ≡ cs
unfolding Agree
bits_same [] [] h = refl
bits_same [] (c ∷ cs) h = absurd h
bits_same (b ∷ bs) [] h = absurd h
bits_same (b ∷ bs) (c ∷ cs) h = ap₂ ◌∷◌ (bit_same b c h.0) (bits_same bs cs h.1)

word_agrees : (w x : ℕ) (o : Option ℕ) → ((k : ℕ) → o ≡ Some k → k ≡ x) → Agree (resets_of_word w o) (bits w x)
word_agrees w x None h = free_agree w x
word_agrees w x (Some k) h = subst (λ (n : ℕ). Agree (map reset_of_bit (bits w k)) (bits w n)) (h k refl) (bits_agree (bits w k))

-- words that agree with the init lines have bits that agree with the resets
states_agree : (items : List Item) (state : Frame) → ((id k : ℕ) → init_word items id ≡ Some k → k ≡ state id) → (xs : List Item) → Agree (given_by_kind (is_carried_state items) (leaf_resets items) xs) (given_by_kind (is_carried_state items) (leaf_bits items state) xs)
unfolding Agree
states_agree items state says [] = tt
states_agree items state says (x ∷ xs) = by (is_carried_state items x) (states_agree items state says xs)
  where
    by : (b : Bool) → Agree (given_by_kind (is_carried_state items) (leaf_resets items) xs) (given_by_kind (is_carried_state items) (leaf_bits items state) xs)
        → Agree ((if b then leaf_resets items x else []) ++ given_by_kind (is_carried_state items) (leaf_resets items) xs) ((if b then leaf_bits items state x else []) ++ given_by_kind (is_carried_state items) (leaf_bits items state) xs)
    by true rest = agree_append (leaf_resets items x) (given_by_kind (is_carried_state items) (leaf_resets items) xs) (leaf_bits items state x) (given_by_kind (is_carried_state items) (leaf_bits items state) xs)
        (word_agrees (bits_of items x.id) (state x.id) (init_word items x.id) (says x.id)) rest
    by false rest = rest

pub initial_bits : (items : List Item) (c : Circuit) → Lowers items c → (state : Frame) → IsInitial items state → AreInitial c.latches (state_bits items state)
initial_bits items c l state initial =
    initial_from_agree c.latches (state_bits items state)
    (subst (λ (rs : List Reset). Agree rs (state_bits items state)) (sym l.resets) (states_agree items state (init_words_say items state initial.inits) items))

-- ---- how many bits there are

pub state_count : (items : List Item) (c : Circuit) → Lowers items c → (state : Frame) → IsInitial items state → length (state_bits items state) ≡ length c.latches
state_count items c l state initial =
    agree_length (state_resets items) (state_bits items state) (states_agree items state (init_words_say items state initial.inits) items)
    ∙ ap length (sym l.resets) ∙ length-map c.latches (λ latch. latch.reset)

-- as many bits are given as there are inputs of the circuit
given_count : (items : List Item) (f : Frame) → length (input_bits items f) ≡ given_width items
given_count items f =
    length-append (given_by_kind (by_body is_input) (leaf_bits items f) items) (given_by_kind (is_free_state items) (leaf_bits items f) items)
    ∙ ap₂ ◌+◌ (length-leaves items (by_body is_input) f items) (length-leaves items (is_free_state items) f items)

pub input_counts : (items : List Item) (c : Circuit) → Lowers items c → (inputs : List Frame) → All (λ input. length input ≡ c.inputs) (map (input_bits items) inputs)
input_counts items c l [] = All-nil (λ input. length input ≡ c.inputs)
input_counts items c l (f ∷ fs) =
    All-cons (λ input. length input ≡ c.inputs) (input_bits items f) (map (input_bits items) fs) (given_count items f ∙ sym l.inputs) (input_counts items c l fs)

-- ---- the words that bits stand for

abbrev states_from : List Item → List Bool → Frame
states_from items bs id = unwrap_or (word_for items (is_carried_state items) items bs id) 0

-- the words that are given: those of free states from the bits behind those of the inputs
abbrev inputs_from : List Item → List Bool → Frame
inputs_from items bs id =
    unwrap_or (if names_state items id then word_for items (is_free_state items) items (drop (input_width items) bs) id else word_for items (by_body is_input) items bs id) 0

states_below : (items : List Item) (bs : List Bool) (id : ℕ) → states_from items bs id < 2 ^ bits_of items id
states_below items bs id = below_or_0 (bits_of items id) (word_for items (is_carried_state items) items bs id) (word_fits items (is_carried_state items) items bs id)

inputs_below : (items : List Item) (bs : List Bool) (id : ℕ) → inputs_from items bs id < 2 ^ bits_of items id
inputs_below items bs id = by (names_state items id)
  where
    by : (b : Bool) → unwrap_or (if b then word_for items (is_free_state items) items (drop (input_width items) bs) id else word_for items (by_body is_input) items bs id) 0 < 2 ^ bits_of items id
    by true = below_or_0 (bits_of items id) (word_for items (is_free_state items) items (drop (input_width items) bs) id) (word_fits items (is_free_state items) items (drop (input_width items) bs) id)
    by false = below_or_0 (bits_of items id) (word_for items (by_body is_input) items bs id) (word_fits items (by_body is_input) items bs id)

state_bits_again : (items : List Item) (bs : List Bool) → IsWellFormed items → length bs ≡ carried_width items → state_bits items (states_from items bs) ≡ bs
state_bits_again items bs w many = state_bits_are items (states_from items bs) bs w many (λ id v e. ap (λ (o : Option ℕ). unwrap_or o 0) e)

input_bits_again : (items : List Item) (bs : List Bool) → IsWellFormed items → length bs ≡ given_width items → input_bits items (inputs_from items bs) ≡ bs
input_bits_again items bs w many =
    let either : ℕ → Bool → Option ℕ = λ id b. if b then word_for items (is_free_state items) items (drop (input_width items) bs) id else word_for items (by_body is_input) items bs id in
    input_bits_are items (inputs_from items bs) bs w many
    (λ id v e. ap (λ (o : Option ℕ). unwrap_or o 0) (ap (either id) (input_named items bs id v w e) ∙ e))
    (λ id v e. ap (λ (o : Option ℕ). unwrap_or o 0) (ap (either id) (free_named items (drop (input_width items) bs) id v w e) ∙ e))

input_lists_again : (items : List Item) (inputs : List (List Bool)) → IsWellFormed items → All (λ input. length input ≡ given_width items) inputs → map (input_bits items) (map (inputs_from items) inputs) ≡ inputs
input_lists_again items [] w many = refl
input_lists_again items (input ∷ inputs) w many = ap₂ ◌∷◌ (input_bits_again items input w (All-head (λ (i : List Bool). length i ≡ given_width items) input inputs many)) (input_lists_again items inputs w (All-tail (λ (i : List Bool). length i ≡ given_width items) input inputs many))

inputs_fit : (items : List Item) (inputs : List (List Bool)) → AllByRecursion (IsInput items) (map (inputs_from items) inputs)
inputs_fit items [] = tt
inputs_fit items (input ∷ inputs) = (fitting_inputs items (inputs_from items input) (inputs_below items input) items, inputs_fit items inputs)

-- ---- initial words from initial bits

leaf_lengths : (items : List Item) (state : Frame) (y : Item) → length (leaf_bits items state y) ≡ length (leaf_resets items y)
leaf_lengths items state y = length-bits (bits_of items y.id) (state y.id) ∙ sym (length-resets (bits_of items y.id) (init_word items y.id))

leaf_agrees : (items : List Item) (state : Frame) (before after : List Item) (y : Item) → is_carried_state items y ≡ true
    → Agree (given_by_kind (is_carried_state items) (leaf_resets items) (before ++ y ∷ after)) (given_by_kind (is_carried_state items) (leaf_bits items state) (before ++ y ∷ after))
    → Agree (leaf_resets items y) (leaf_bits items state y)
leaf_agrees items state [] after y is h = by (is_carried_state items y) is h
  where
    by : (b : Bool) → b ≡ true → Agree ((if b then leaf_resets items y else []) ++ given_by_kind (is_carried_state items) (leaf_resets items) after) ((if b then leaf_bits items state y else []) ++ given_by_kind (is_carried_state items) (leaf_bits items state) after)
        → Agree (leaf_resets items y) (leaf_bits items state y)
    by true is h = (agree_split (leaf_resets items y) (given_by_kind (is_carried_state items) (leaf_resets items) after) (leaf_bits items state y) (given_by_kind (is_carried_state items) (leaf_bits items state) after) (leaf_lengths items state y) h).0
    by false is h = absurd (cc)
leaf_agrees items state (z ∷ before) after y is h = by (is_carried_state items z) (leaf_agrees items state before after y is) h
  where
    by : (b : Bool) → (Agree (given_by_kind (is_carried_state items) (leaf_resets items) (before ++ y ∷ after)) (given_by_kind (is_carried_state items) (leaf_bits items state) (before ++ y ∷ after)) → Agree (leaf_resets items y) (leaf_bits items state y))
        → Agree ((if b then leaf_resets items z else []) ++ given_by_kind (is_carried_state items) (leaf_resets items) (before ++ y ∷ after)) ((if b then leaf_bits items state z else []) ++ given_by_kind (is_carried_state items) (leaf_bits items state) (before ++ y ∷ after))
        → Agree (leaf_resets items y) (leaf_bits items state y)
    by true rest h = rest (agree_split (leaf_resets items z) _ (leaf_bits items state z) _ (leaf_lengths items state z) h).1
    by false rest h = rest h

-- a state whose bits agree with its resets has the word of its init line
init_agrees : (items : List Item) (state : Frame) → IsWellFormed items → ((id : ℕ) → state id < 2 ^ bits_of items id) → Agree (state_resets items) (state_bits items state)
    → (t v : ℕ) → init_value items t ≡ Some v → constant_of items v ≡ Some (state t)
init_agrees items state w fits agree t v e =
    let of = IsInitOf-from_value items t v w e in
    let y = state_item items t of.state in
    let whole = subst (λ (l : List Item). Agree (given_by_kind (is_carried_state items) (leaf_resets items) l) (given_by_kind (is_carried_state items) (leaf_bits items state) l)) y.1.splits agree in
    let carried : is_carried_state items y.0 ≡ true = ap₂ (λ (b c : Bool). b && not c) y.3 (init_not_free items y.0.id v (subst (λ (n : ℕ). init_value items n ≡ Some v) y.2 e)) in
    let leaf = leaf_agrees items state y.1.before y.1.after y.0 carried whole in
    let given : init_word items y.0.id ≡ Some of.constant = subst (λ (n : ℕ). init_word items n ≡ Some of.constant) y.2 (ap (option_and_then (constant_of items)) e ∙ of.word) in
    let same = bits_same (bits (bits_of items y.0.id) of.constant) (leaf_bits items state y.0) (subst (λ (o : Option ℕ). Agree (resets_of_word (bits_of items y.0.id) o) (leaf_bits items state y.0)) given leaf) in
    let below : of.constant < 2 ^ bits_of items y.0.id = init_word_below items y.0.id of.constant w given in
    let equal : of.constant ≡ state y.0.id = sym (word-bits (bits_of items y.0.id) of.constant below) ∙ ap word same ∙ word-bits (bits_of items y.0.id) (state y.0.id) (fits y.0.id) in
    of.word ∙ ap (λ (n : ℕ). Some n) (equal ∙ sym (ap state y.2))

-- ---- what rises

pub shows_equal : (items : List Item) (c : Circuit) (fs : List Frame) (vs : List Valuation) → AllZip (ShowsSame items c) fs vs → map (model_shows items) fs ≡ map (circuit_shows c) vs
shows_equal items c [] [] h = refl
shows_equal items c [] (v ∷ vs) h = absurd h
shows_equal items c (f ∷ fs) [] h = absurd h
shows_equal items c (f ∷ fs) (v ∷ vs) h = ap₂ ◌∷◌ (sym h.0.properties) (shows_equal items c fs vs h.1)

shown_length : (items : List Item) (c : Circuit) (fs : List Frame) (vs : List Valuation) → map (model_shows items) fs ≡ map (circuit_shows c) vs → length fs ≡ length vs
shown_length items c fs vs same = sym (length-map fs (model_shows items)) ∙ (ap length same ∙ length-map vs (circuit_shows c))

pub rises_in_circuit : (items : List Item) (c : Circuit) (b : ℕ) → Lowers items c
    → ((state : List Bool) (inputs : List (List Bool)) → length state ≡ length c.latches → All (λ input. length input ≡ c.inputs) inputs → (vs : List Valuation) × IsCircuitTrace c state inputs vs)
    → (h : CanRise items b) → (g : CanRiseInCircuit c b) × (length g.frames ≡ length h.frames)
rises_in_circuit items c b l exists h =
    let there = exists (state_bits items h.state) (map (input_bits items) h.inputs) (state_count items c l h.state h.initial) (input_counts items c l h.inputs) in
    let same = shows_equal items c h.frames there.0 (l.frames h.state h.inputs h.initial h.given h.frames h.trace there.0 there.1) in (
      record {
        state = state_bits items h.state;
        inputs = map (input_bits items) h.inputs;
        frames = there.0;
        initial = initial_bits items c l h.state h.initial;
        trace = there.1;
        rises = subst (λ (shown : List Shown). rises_within b shown ≡ true) same h.rises;
      },
      sym (shown_length items c h.frames there.0 same),
    )

pub rises_in_model : (items : List Item) (c : Circuit) (b : ℕ) → Lowers items c
    → ((state : Frame) (inputs : List Frame) → (fs : List Frame) × IsTrace items state inputs fs)
    → (g : CanRiseInCircuit c b) → (h : CanRise items b) × (length h.frames ≡ length g.frames)
rises_in_model items c b l exists h =
    let w = l.well_formed in
    let state = states_from items h.state in
    let inputs = map (inputs_from items) h.inputs in
    let agree : Agree (state_resets items) h.state = subst (λ (rs : List Reset). Agree rs h.state) l.resets (agree_from_initial c.latches h.state h.initial) in
    let many : length h.state ≡ carried_width items = agree_length (state_resets items) h.state agree ∙ length-state_resets items items in
    let bits_are : state_bits items state ≡ h.state = state_bits_again items h.state w many in
    let wide : All (λ input. length input ≡ given_width items) h.inputs = subst (λ (n : ℕ). All (λ input. length input ≡ n) h.inputs) l.inputs (trace_inputs c h.state h.inputs h.frames h.trace) in
    let lists_are : map (input_bits items) inputs ≡ h.inputs = input_lists_again items h.inputs w wide in
    let fits = states_below items h.state in
    let says = init_agrees items state w fits (subst (Agree (state_resets items)) (sym bits_are) agree) in
    let initial : IsInitial items state = record { fits = fitting_states items state fits items; inits = inits_hold items state w says } in
    let there = exists state inputs in
    let trace : IsCircuitTrace c (state_bits items state) (map (input_bits items) inputs) h.frames =
    subst (λ (s : List Bool). IsCircuitTrace c s (map (input_bits items) inputs) h.frames) (sym bits_are) (subst (λ (i : List (List Bool)). IsCircuitTrace c h.state i h.frames) (sym lists_are) h.trace) in
    let given = inputs_fit items h.inputs in
    let same = shows_equal items c there.0 h.frames (l.frames state inputs initial given there.0 there.1 h.frames trace) in (
      record {
        state = state;
        inputs = inputs;
        frames = there.0;
        initial = initial;
        given = given;
        trace = there.1;
        rises = subst (λ (shown : List Shown). rises_within b shown ≡ true) (sym same) h.rises;
      },
      shown_length items c there.0 h.frames same,
    )
