-- Frames of the words that a frame gives.
use Rattle.std.proofs.Common.{◌≡◌, ℕ, ◌<◌, Bool, true, false, cond, nat_eq, eq-eqb, List, [], ◌∷◌, ◌++◌, length, map, get_or, set, Some, ⊎_elim, refl, sym, ap, ◌∙◌, append_assoc, arith}
use Rattle.std.proofs.lemmas.Bool.{cases_eq, ne_eqb}
use Rattle.std.proofs.lemmas.List.{length-map, length-set, get_or-map, get_or-set_same, get_or-set_other, ext_get_or}
use Rattle.std.specs.List.{AllByRecursion}
use Rattle.btor2.specs.declared.item.Item.{Item}
use Rattle.btor2.specs.declared.item.Body.{Body}
use Rattle.btor2.specs.declared.item.Body.TheVariants as body
use Rattle.btor2.specs.Items.{find_item, is_state, is_input, is_free}
use Rattle.btor2.specs.Check.{IsWellFormed}
use Rattle.btor2.specs.Trace.{Frame, state_word, LineHolds, IsFrame}
use Rattle.btor2.proofs.ModelLemmas.{IsIn, find_item-in}
use Rattle.runs.specs.Frames.{is_leaf, ids_of, kind_rank, given_at, given_leaves}
use Rattle.runs.proofs.RankLemmas.{rank-below, ids-rank, length-ids, state_leaf, input_leaf, either_word}
use Rattle.runs.proofs.InvariantLemmas.{leaf-nth}

pub given-map : (test : Body → Bool) (items : List Item) (g : Frame) (id : ℕ) (x : Item) → find_item items id ≡ Some x → test x.body ≡ true → given_at test items (map g (ids_of test items)) id ≡ g id
given-map test items g id x found is =
    let inside : kind_rank test items id < length (ids_of test items) = omega (arith, rank-below test items id x found is, length-ids test items) in
    get_or-map g (ids_of test items) (kind_rank test items id) 0 0 inside ∙ ap g (ids-rank test items id x found is)

-- a line says the same from other words that it has in common
line_given : (items : List Item) (state state' input input' f : Frame) (id : ℕ) (b : Body) → (is_state b ≡ true → state_word items state input id ≡ state_word items state' input' id) → (is_input b ≡ true → input id ≡ input' id)
    → LineHolds items state input f id b → LineHolds items state' input' f id b
line_given items state state' input input' f id (body.State s) of_state of_input h = h ∙ of_state refl
line_given items state state' input input' f id (body.Input s) of_state of_input h = h ∙ of_input refl
line_given items state state' input input' f id _ of_state of_input h = h

lines_given : (items : List Item) (state state' input input' f : Frame) (before rest : List Item) → items ≡ before ++ rest → ((x : Item) → IsIn items x → is_state x.body ≡ true → state_word items state input x.id ≡ state_word items state' input' x.id)
    → ((x : Item) → IsIn items x → is_input x.body ≡ true → input x.id ≡ input' x.id) → AllByRecursion (λ (x : Item). LineHolds items state input f x.id x.body) rest → AllByRecursion (λ (x : Item). LineHolds items state' input' f x.id x.body) rest
lines_given items state state' input input' f before [] e of_states of_inputs h = tt
lines_given items state state' input input' f before (x ∷ xs) e of_states of_inputs h =
    let at : IsIn items x = record { before = before; after = xs; splits = e } in (
      line_given items state state' input input' f x.id x.body (of_states x at) (of_inputs x at) h.0,
      lines_given items state state' input input' f (before ++ x ∷ []) xs (e ∙ sym (append_assoc before (x ∷ []) xs)) of_states of_inputs h.1,
    )

module _ (items : List Item) (state input f : Frame) (w : IsWellFormed items) where
  abbrev pub states_given : Frame
  states_given = given_at is_state items (map (state_word items state input) (ids_of is_state items))

  abbrev pub leaves_given : Frame
  leaves_given = given_leaves items (map (state_word items state input) (ids_of is_state items)) (map input (ids_of is_input items))

  state_given : (x : Item) → IsIn items x → is_state x.body ≡ true → state_word items states_given leaves_given x.id ≡ state_word items state input x.id
  state_given x at is =
      let found = find_item-in items x w at in
      let word = given-map is_state items (state_word items state input) x.id x found is in
      either_word (is_free items x.id) (states_given x.id) (leaves_given x.id) (state_word items state input x.id) word (state_leaf items _ _ x.id x found is ∙ word)

  input_given : (x : Item) → IsIn items x → is_input x.body ≡ true → leaves_given x.id ≡ input x.id
  input_given x at is =
      let found = find_item-in items x w at in
      input_leaf items _ _ x.id x found is ∙ given-map is_input items input x.id x found is

  pub frame_given : IsFrame items state input f → IsFrame items states_given leaves_given f
  frame_given h = lines_given items state states_given input leaves_given f [] items refl (λ x at is. sym (state_given x at is)) (λ x at is. sym (input_given x at is)) h

  pub frame_taken : IsFrame items states_given leaves_given f → IsFrame items state input f
  frame_taken h = lines_given items states_given state leaves_given input f [] items refl state_given input_given h

-- a word that is set for the k-th of a kind
pub set-map : (test : Body → Bool) (items : List Item) (g : Frame) (k word : ℕ) → ((b : Body) → test b ≡ true → is_leaf b ≡ true) → IsWellFormed items → k < length (ids_of test items)
    → set (map g (ids_of test items)) k word ≡ map (λ id. cond (nat_eq id (get_or (ids_of test items) k 0)) word (g id)) (ids_of test items)
set-map test items g k word leaf w h =
    ext_get_or 0 (set (map g (ids_of test items)) k word) (map (λ id. cond (nat_eq id (get_or (ids_of test items) k 0)) word (g id)) (ids_of test items))
    (length-set (map g (ids_of test items)) k word ∙ length-map (ids_of test items) g ∙ sym (length-map (ids_of test items) (λ id. cond (nat_eq id (get_or (ids_of test items) k 0)) word (g id))))
    (λ j within.
    let inside : j < length (ids_of test items) = omega (arith, length-set (map g (ids_of test items)) k word, length-map (ids_of test items) g) in
    let read = get_or-map (λ id. cond (nat_eq id (get_or (ids_of test items) k 0)) word (g id)) (ids_of test items) j 0 0 inside in
    ⊎_elim
    (λ e.
    let range : k < length (map g (ids_of test items)) = omega (arith, length-map (ids_of test items) g) in
    let own : nat_eq (get_or (ids_of test items) j 0) (get_or (ids_of test items) k 0) ≡ true = eq-eqb (get_or (ids_of test items) j 0) (get_or (ids_of test items) k 0) (ap (λ (i : ℕ). get_or (ids_of test items) i 0) e) in
    ap (λ (i : ℕ). get_or (set (map g (ids_of test items)) k word) i 0) e ∙ get_or-set_same (map g (ids_of test items)) k word 0 range
    ∙ sym (read ∙ ap (λ (b : Bool). cond b word (g (get_or (ids_of test items) j 0))) own))
    (λ ne.
    let a = leaf-nth test items j w leaf inside in
    let b = leaf-nth test items k w leaf h in
    let other : nat_eq (get_or (ids_of test items) j 0) (get_or (ids_of test items) k 0) ≡ false =
    ne_eqb (get_or (ids_of test items) j 0) (get_or (ids_of test items) k 0) (λ same. ne (sym a.own_rank ∙ ap (kind_rank test items) same ∙ b.own_rank)) in
    get_or-set_other (map g (ids_of test items)) k j word 0 ne ∙ get_or-map g (ids_of test items) j 0 0 inside ∙ sym (read ∙ ap (λ (b : Bool). cond b word (g (get_or (ids_of test items) j 0))) other))
    (cases_eq j k))
