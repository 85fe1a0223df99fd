-- An initial bit differs from its latch's reset where the word of the latch's state differs from its init line, and none does where none differs.
use Rattle.std.proofs.Common.{◌≡◌, ℕ, zero, suc, ◌+◌, ◌/◌, ◌<◌, ◌^◌, ◌&&◌, not, nat_eq, eq-eqb, eqb-true, Bool, true, false, cond, List, [], ◌∷◌, ◌++◌, Option, Some, None, is_none, option_and_then, map, replicate, length, slice_get, refl, sym, ap, ap₂, subst, ◌∙◌, arith, true≢false, ◌⊎◌, inl, inr}
use Rattle.std.specs.Prelude.{if◌then◌else◌}
use Rattle.std.specs.List.{position_from}
use Rattle.std.proofs.lemmas.Bool.{and_parts, false_from_ne_true}
use Rattle.std.proofs.lemmas.Option.{none-some}
use Rattle.base.specs.Word.{word, bits}
use Rattle.base.proofs.BitLemmas.{length-bits, word-bits}
use Rattle.btor2.specs.declared.item.Item.{Item}
use Rattle.btor2.specs.Items.{is_state, is_free, is_carried_state, init_value, next_value, constant_of, init_word}
use Rattle.btor2.specs.Check.{IsWellFormed}
use Rattle.btor2.specs.Trace.{Frame, bits_of}
use Rattle.btor2.specs.Lists.{of_kind as leaves_of}
use Rattle.btor2.proofs.ModelLemmas.{IsInitOf-from_value}
use Rattle.btor2.proofs.IdLemmas.{state_item}
use Rattle.aiger.specs.declared.circuit.Latch.{Latch}
use Rattle.aiger.specs.declared.circuit.Reset.{Reset}
use Rattle.aiger.specs.declared.circuit.Reset.TheVariants as reset
use Rattle.blast.specs.Leaves.{given_by_kind, leaf_bits, leaf_resets, resets_of_word, reset_of_bit, state_bits, state_resets}
use Rattle.witness.specs.Judgements.{differs, first_different}
use Rattle.witness.specs.BitJudgements.{differs_from_reset, first_reset_differing}
use Rattle.lift.specs.Verdicts.{owners, latch_states}
use Rattle.lift.proofs.AssignedLemmas.{takes_carried}

-- ---- resets alone

-- the first bit that is not that of its reset; they are counted from k on
abbrev first_differing : ℕ → List Reset → List Bool → Option ℕ
first_differing k [] bs = None
first_differing k (r ∷ rs) [] = None
first_differing k (r ∷ rs) (b ∷ bs) = if differs_from_reset r b then Some k else first_differing (suc k) rs bs

by_resets : (k : ℕ) (ls : List Latch) (bs : List Bool) → first_reset_differing k ls bs ≡ first_differing k (map (λ latch. latch.reset) ls) bs
by_resets k [] bs = refl
by_resets k (l ∷ ls) [] = refl
by_resets k (l ∷ ls) (b ∷ bs) = ap (λ (o : Option ℕ). if differs_from_reset l.reset b then Some k else o) (by_resets (suc k) ls bs)

-- ---- one state

free_pass : (n k x : ℕ) (rs : List Reset) (bs : List Bool) → first_differing k (replicate n reset.Free ++ rs) (bits n x ++ bs) ≡ first_differing (k + n) rs bs
free_pass zero k x rs bs = let same : k + 0 ≡ k = omega arith in ap (λ (j : ℕ). first_differing j rs bs) (sym same)
free_pass (suc n) k x rs bs = let same : suc k + n ≡ k + suc n = omega arith in free_pass n (suc k) (x / 2) rs bs ∙ ap (λ (j : ℕ). first_differing j rs bs) same

-- bits that begin as others say all pass, or one of them differs
record Passed (as_said bs : List Bool) (k n : ℕ) (rs : List Reset) (cs : List Bool) : Type 0 where
  same : as_said ≡ bs
  behind : first_differing k (map reset_of_bit as_said ++ rs) (bs ++ cs) ≡ first_differing (k + n) rs cs

record Stopped (as_said bs : List Bool) (k n : ℕ) (rs : List Reset) (cs : List Bool) : Type 0 where
  other : as_said ≡ bs → ⊥
  at : ℕ
  within : at < n
  first : first_differing k (map reset_of_bit as_said ++ rs) (bs ++ cs) ≡ Some (k + at)

bit_passes : (b : Bool) → differs_from_reset (reset_of_bit b) b ≡ false
bit_passes true = refl
bit_passes false = refl

bit_differs : (a b : Bool) → (a ≡ b → ⊥) → differs_from_reset (reset_of_bit a) b ≡ true
bit_differs true true h = absurd (h refl)
bit_differs true false h = refl
bit_differs false true h = refl
bit_differs false false h = absurd (h refl)

bits_same : (a b : Bool) → (a ≡ b) ⊎ (a ≡ b → ⊥)
bits_same true true = inl refl
bits_same true false = inr true≢false
bits_same false true = inr (λ e. true≢false (sym e))
bits_same false false = inl refl

first_of : Bool → List Bool → Bool
first_of d [] = d
first_of d (b ∷ bs) = b

rest_of : List Bool → List Bool
rest_of [] = []
rest_of (b ∷ bs) = bs

block : (as_said bs : List Bool) (k : ℕ) (rs : List Reset) (cs : List Bool) → length as_said ≡ length bs → Passed as_said bs k (length bs) rs cs ⊎ Stopped as_said bs k (length bs) rs cs
unfolding first_of rest_of
block [] [] k rs cs h = let same : k + 0 ≡ k = omega arith in inl (record { same = refl; behind = ap (λ (j : ℕ). first_differing j rs cs) (sym same) })
block [] (b ∷ bs) k rs cs h = absurd (omega (arith, h))
block (a ∷ ps) [] k rs cs h = absurd (omega (arith, h))
block (a ∷ ps) (b ∷ bs) k rs cs h =
    elim (bits_same a b) [
      | inr other ↦
          let same : k + 0 ≡ k = omega arith in
          inr (record {
            other = λ e. other (ap (first_of a) e);
            at = 0;
            within = omega arith;
            first = ap (λ (d : Bool). if d then Some k else first_differing (suc k) (map reset_of_bit ps ++ rs) (bs ++ cs)) (bit_differs a b other) ∙ ap (λ (j : ℕ). Some j) (sym same);
          })
      | inl own ↦
          let passes : differs_from_reset (reset_of_bit a) b ≡ false = ap (λ (x : Bool). differs_from_reset (reset_of_bit x) b) own ∙ bit_passes b in
          let goes : first_differing k (map reset_of_bit (a ∷ ps) ++ rs) ((b ∷ bs) ++ cs) ≡ first_differing (suc k) (map reset_of_bit ps ++ rs) (bs ++ cs) =
          ap (λ (d : Bool). if d then Some k else first_differing (suc k) (map reset_of_bit ps ++ rs) (bs ++ cs)) passes in
          elim (block ps bs (suc k) rs cs (omega (arith, h))) [
            | inl p ↦
                let more : suc k + length bs ≡ k + suc (length bs) = omega arith in
                inl (record { same = ap₂ ◌∷◌ own p.same; behind = goes ∙ (p.behind ∙ ap (λ (j : ℕ). first_differing j rs cs) more) })
            | inr s ↦
                let more : suc k + s.at ≡ k + suc s.at = omega arith in
                inr (record { other = λ e. s.other (ap rest_of e); at = suc s.at; within = omega (arith, s.within); first = goes ∙ (s.first ∙ ap (λ (j : ℕ). Some j) more) })
          ]
    ]

-- ---- which state a latch belongs to

own_latch : (n m i : ℕ) (os : List ℕ) → m < n → slice_get (replicate n i ++ os) m ≡ Some i
own_latch zero m i os h = absurd (omega (arith, h))
own_latch (suc n) zero i os h = refl
own_latch (suc n) (suc m) i os h = own_latch n m i os (omega (arith, h))

later_latch : (n m i : ℕ) (os : List ℕ) → slice_get (replicate n i ++ os) (n + m) ≡ slice_get os m
later_latch zero m i os = let same : 0 + m ≡ m = omega arith in ap (slice_get os) same
later_latch (suc n) m i os = let same : suc n + m ≡ suc (n + m) = omega arith in ap (slice_get (i ∷ (replicate n i ++ os))) same ∙ later_latch n m i os

-- a latch that differs, counted from k on, belongs to the state that differs, and where none differs none does
abbrev pub Belongs : List ℕ → ℕ → Option ℕ → Option ℕ → Type 0
Belongs os k None p = p ≡ None
Belongs os k (Some l) p = (i : ℕ) × (m : ℕ) × (l ≡ k + m) × (slice_get os m ≡ Some i) × (p ≡ Some i)

belongs_behind : (n i k : ℕ) (os : List ℕ) (o p : Option ℕ) → Belongs os (k + n) o p → Belongs (replicate n i ++ os) k o p
belongs_behind n i k os None p h = h
belongs_behind n i k os (Some l) p h = (h.0, n + h.1, omega (arith, h.2), later_latch n h.1 i os ∙ h.3, h.4)

-- ---- the states in their order

abbrev resets_in : List Item → List Item → List Reset
resets_in items xs = given_by_kind (takes_carried items) (leaf_resets items) xs

abbrev bits_in : List Item → Frame → List Item → List Bool
bits_in items f xs = given_by_kind (takes_carried items) (leaf_bits items f) xs

abbrev different : List Item → Frame → Item → Bool
different items f x = differs (init_word items x.id) (f x.id)

abbrev InitsFit : List Item → Type 0
InitsFit items = (id c : ℕ) → init_word items id ≡ Some c → c < 2 ^ bits_of items id

free_has_no_init : (items : List Item) (id : ℕ) → is_free items id ≡ true → init_word items id ≡ None
free_has_no_init items id h = by (init_value items id) (and_parts (is_none (init_value items id)) (is_none (next_value items id)) h).0
  where
    by : (o : Option ℕ) → is_none o ≡ true → option_and_then (constant_of items) o ≡ None
    by None e = refl
    by (Some v) e = absurd (cc)

module _ (items : List Item) (f : Frame) (k index : ℕ) (x : Item) (xs : List Item) where
  abbrev Rest : Type 0
  Rest = (j : ℕ) → Belongs (owners items (suc index) xs) j (first_differing j (resets_in items xs) (bits_in items f xs)) (position_from (different items f) (index + 1) xs)

  -- a state that begins freely
  passes_freely : Rest → Belongs (replicate (bits_of items x.id) index ++ owners items (suc index) xs) k (first_differing k (replicate (bits_of items x.id) reset.Free ++ resets_in items xs) (leaf_bits items f x ++ bits_in items f xs)) (position_from (different items f) (index + 1) xs)
  passes_freely rest =
      subst (λ (o : Option ℕ). Belongs (replicate (bits_of items x.id) index ++ owners items (suc index) xs) k o (position_from (different items f) (index + 1) xs)) (sym (free_pass (bits_of items x.id) k (f x.id) (resets_in items xs) (bits_in items f xs)))
      (belongs_behind (bits_of items x.id) index k (owners items (suc index) xs) (first_differing (k + bits_of items x.id) (resets_in items xs) (bits_in items f xs)) (position_from (different items f) (index + 1) xs) (rest (k + bits_of items x.id)))

  -- one that begins with a constant
  by_constant : (c : ℕ) → c < 2 ^ bits_of items x.id → f x.id < 2 ^ bits_of items x.id → Rest
      → Belongs (replicate (bits_of items x.id) index ++ owners items (suc index) xs) k (first_differing k (map reset_of_bit (bits (bits_of items x.id) c) ++ resets_in items xs) (leaf_bits items f x ++ bits_in items f xs)) (cond (not (nat_eq c (f x.id))) (Some index) (position_from (different items f) (index + 1) xs))
  by_constant c below fits rest =
      let n : ℕ = bits_of items x.id in
      let later : Option ℕ = position_from (different items f) (index + 1) xs in
      let long : length (leaf_bits items f x) ≡ n = length-bits n (f x.id) in
      elim (block (bits n c) (leaf_bits items f x) k (resets_in items xs) (bits_in items f xs) (length-bits n c ∙ sym long)) [
        | inl p ↦
            let equal : c ≡ f x.id = sym (word-bits n c below) ∙ (ap word p.same ∙ word-bits n (f x.id) fits) in
            let behind : first_differing k (map reset_of_bit (bits n c) ++ resets_in items xs) (leaf_bits items f x ++ bits_in items f xs) ≡ first_differing (k + n) (resets_in items xs) (bits_in items f xs) =
            p.behind ∙ ap (λ (m : ℕ). first_differing (k + m) (resets_in items xs) (bits_in items f xs)) long in
            let go : (o q : Option ℕ) → o ≡ first_differing (k + n) (resets_in items xs) (bits_in items f xs) → q ≡ later → Belongs (replicate n index ++ owners items (suc index) xs) k o q =
            λ o q d e. subst (λ (r : Option ℕ). Belongs (replicate n index ++ owners items (suc index) xs) k r q) (sym d) (subst (Belongs (replicate n index ++ owners items (suc index) xs) k (first_differing (k + n) (resets_in items xs) (bits_in items f xs))) (sym e)
            (belongs_behind n index k (owners items (suc index) xs) (first_differing (k + n) (resets_in items xs) (bits_in items f xs)) later (rest (k + n)))) in
            go (first_differing k (map reset_of_bit (bits n c) ++ resets_in items xs) (leaf_bits items f x ++ bits_in items f xs)) (cond (not (nat_eq c (f x.id))) (Some index) later) behind
            (ap (λ (b : Bool). cond (not b) (Some index) later) (eq-eqb c (f x.id) equal))
        | inr s ↦
            let apart : nat_eq c (f x.id) ≡ false = false_from_ne_true (nat_eq c (f x.id)) (λ e. s.other (ap (bits n) (eqb-true c (f x.id) e))) in
            let within : s.at < n = omega (arith, s.within, long) in
            subst (λ (o : Option ℕ). Belongs (replicate n index ++ owners items (suc index) xs) k o (cond (not (nat_eq c (f x.id))) (Some index) later)) (sym s.first)
            (index, s.at, refl, own_latch n s.at index (owners items (suc index) xs) within, ap (λ (b : Bool). cond (not b) (Some index) later) apart)
      ]

  carried_belongs : InitsFit items → f x.id < 2 ^ bits_of items x.id → Rest
      → Belongs (replicate (bits_of items x.id) index ++ owners items (suc index) xs) k (first_differing k (leaf_resets items x ++ resets_in items xs) (leaf_bits items f x ++ bits_in items f xs)) (cond (different items f x) (Some index) (position_from (different items f) (index + 1) xs))
  carried_belongs inits fits rest = by (init_word items x.id) refl
    where
      by : (o : Option ℕ) → init_word items x.id ≡ o
          → Belongs (replicate (bits_of items x.id) index ++ owners items (suc index) xs) k (first_differing k (resets_of_word (bits_of items x.id) o ++ resets_in items xs) (leaf_bits items f x ++ bits_in items f xs)) (cond (differs o (f x.id)) (Some index) (position_from (different items f) (index + 1) xs))
      by None e = passes_freely rest
      by (Some c) e = by_constant c (inits x.id c e) fits rest

  free_belongs : is_free items x.id ≡ true → Rest → Belongs (owners items (suc index) xs) k (first_differing k (resets_in items xs) (bits_in items f xs)) (cond (different items f x) (Some index) (position_from (different items f) (index + 1) xs))
  free_belongs free rest =
      let none : different items f x ≡ false = ap (λ (o : Option ℕ). differs o (f x.id)) (free_has_no_init items x.id free) in
      subst (λ (b : Bool). Belongs (owners items (suc index) xs) k (first_differing k (resets_in items xs) (bits_in items f xs)) (cond b (Some index) (position_from (different items f) (index + 1) xs))) (sym none) (rest k)

states_belong : (items : List Item) (f : Frame) (k index : ℕ) (xs : List Item) → InitsFit items → ((id : ℕ) → f id < 2 ^ bits_of items id)
    → Belongs (owners items index xs) k (first_differing k (resets_in items xs) (bits_in items f xs)) (position_from (different items f) index xs)
states_belong items f k index [] inits fits = refl
states_belong items f k index (x ∷ xs) inits fits =
    by (is_free items x.id) refl
    (λ j. let next : index + 1 ≡ suc index = omega arith in subst (λ (n : ℕ). Belongs (owners items (suc index) xs) j (first_differing j (resets_in items xs) (bits_in items f xs)) (position_from (different items f) n xs)) (sym next) (states_belong items f j (suc index) xs inits fits))
  where
    by : (b : Bool) → is_free items x.id ≡ b → ((j : ℕ) → Belongs (owners items (suc index) xs) j (first_differing j (resets_in items xs) (bits_in items f xs)) (position_from (different items f) (index + 1) xs))
        → Belongs ((if b then [] else replicate (bits_of items x.id) index) ++ owners items (suc index) xs) k (first_differing k ((if not b then leaf_resets items x else []) ++ resets_in items xs) ((if not b then leaf_bits items f x else []) ++ bits_in items f xs))
        (cond (different items f x) (Some index) (position_from (different items f) (index + 1) xs))
    by true e rest = free_belongs items f k index x xs e rest
    by false e rest = carried_belongs items f k index x xs inits (fits x.id) rest

-- of the states among all items
states_alone : {A : Type 0} (items : List Item) (give : Item → List A) (xs : List Item) → given_by_kind (is_carried_state items) give xs ≡ given_by_kind (takes_carried items) give (leaves_of is_state xs)
states_alone items give [] = refl
states_alone items give (x ∷ xs) = ap (λ l. (if is_carried_state items x then give x else []) ++ l) (states_alone items give xs) ∙ by (is_state x.body)
  where
    by : (b : Bool) → (if b && takes_carried items x then give x else []) ++ given_by_kind (takes_carried items) give (leaves_of is_state xs) ≡ given_by_kind (takes_carried items) give (if b then x ∷ leaves_of is_state xs else leaves_of is_state xs)
    by true = refl
    by false = refl

pub latch_belongs : (items : List Item) (latches : List Latch) (f : Frame) (initial : List Bool) → InitsFit items → ((id : ℕ) → f id < 2 ^ bits_of items id) → map (λ latch. latch.reset) latches ≡ state_resets items → state_bits items f ≡ initial
    → Belongs (latch_states items) 0 (first_reset_differing 0 latches initial) (first_different items f)
latch_belongs items latches f initial inits fits resets own =
    let same : first_reset_differing 0 latches initial ≡ first_differing 0 (resets_in items (leaves_of is_state items)) (bits_in items f (leaves_of is_state items)) =
    by_resets 0 latches initial
    ∙ ap₂ (first_differing 0) (resets ∙ states_alone items (leaf_resets items) items) (sym own ∙ states_alone items (leaf_bits items f) items) in
    subst (λ (o : Option ℕ). Belongs (latch_states items) 0 o (first_different items f)) (sym same) (states_belong items f 0 0 (leaves_of is_state items) inits fits)

-- ---- where none differs the init lines hold

none_differs : (items : List Item) (f : Frame) (index : ℕ) (before after : List Item) (y : Item) → is_state y.body ≡ true → position_from (different items f) index (leaves_of is_state (before ++ y ∷ after)) ≡ None → different items f y ≡ false
none_differs items f index [] after y is h = by (is_state y.body) is h
  where
    test : (d : Bool) → different items f y ≡ d → cond d (Some index) (position_from (different items f) (index + 1) (leaves_of is_state after)) ≡ None → different items f y ≡ false
    test true e h = absurd (none-some index (sym h))
    test false e h = e

    by : (b : Bool) → b ≡ true → position_from (different items f) index (if b then y ∷ leaves_of is_state after else leaves_of is_state after) ≡ None → different items f y ≡ false
    by true e h = test (different items f y) refl h
    by false e h = absurd (cc)
none_differs items f index (z ∷ before) after y is h = by (is_state z.body) h (λ n e. none_differs items f n before after y is e)
  where
    test : (d : Bool) → ((n : ℕ) → position_from (different items f) n (leaves_of is_state (before ++ y ∷ after)) ≡ None → different items f y ≡ false)
        → cond d (Some index) (position_from (different items f) (index + 1) (leaves_of is_state (before ++ y ∷ after))) ≡ None → different items f y ≡ false
    test true rest h = absurd (none-some index (sym h))
    test false rest h = rest (index + 1) h

    by : (b : Bool) → position_from (different items f) index (if b then z ∷ leaves_of is_state (before ++ y ∷ after) else leaves_of is_state (before ++ y ∷ after)) ≡ None
        → ((n : ℕ) → position_from (different items f) n (leaves_of is_state (before ++ y ∷ after)) ≡ None → different items f y ≡ false) → different items f y ≡ false
    by true h rest = test (different items f z) rest h
    by false h rest = rest index h

same_constant : (c x : ℕ) → not (nat_eq c x) ≡ false → c ≡ x
same_constant c x h = by (nat_eq c x) refl h
  where
    by : (b : Bool) → nat_eq c x ≡ b → not b ≡ false → c ≡ x
    by true e h = eqb-true c x e
    by false e h = absurd (true≢false h)

pub init_agrees : (items : List Item) (f : Frame) → IsWellFormed items → first_different items f ≡ None → (t v : ℕ) → init_value items t ≡ Some v → constant_of items v ≡ Some (f t)
init_agrees items f w none t v e =
    let of = IsInitOf-from_value items t v w e in
    let y = state_item items t of.state in
    let split : position_from (different items f) 0 (leaves_of is_state (y.1.before ++ y.0 ∷ y.1.after)) ≡ None = subst (λ (l : List Item). position_from (different items f) 0 (leaves_of is_state l) ≡ None) y.1.splits none in
    let same : different items f y.0 ≡ false = none_differs items f 0 y.1.before y.1.after y.0 y.3 split in
    let given : init_word items t ≡ Some of.constant = ap (option_and_then (constant_of items)) e ∙ of.word in
    let own : differs (Some of.constant) (f t) ≡ false = ap (λ (o : Option ℕ). differs o (f t)) (sym given) ∙ (ap (λ (n : ℕ). differs (init_word items n) (f n)) y.2 ∙ same) in
    of.word ∙ ap (λ (n : ℕ). Some n) (same_constant of.constant (f t) own)
